-- The whole way of a request through a crossbar's module.
use Rattle.std.proofs.Common.{◌≡◌, ℕ, suc, ◌+◌, ◌-◌, eqb, Bool, true, false, not, cond, arith, ◌&&◌, ◌||◌, inl, inr, List, [], ◌∷◌, ◌++◌, map, length, refl, ap, sym, subst, ◌∙◌, Some, None, codes}
use Rattle.std.specs.Prelude.{slice_get}
use Rattle.std.specs.Str.{bytes_eq}
use Rattle.std.proofs.lemmas.List.{append_assoc, length-append}
use Rattle.std.proofs.Math.Seq.{take-append_seam}
use Rattle.cg_svspec.specs.Bits.{Bits}
use Rattle.cg_svspec.specs.Tree.{Port, Module}
use Rattle.cg_svspec.specs.Names.{is_among, Among, Differ, port_names, module_names}
use Rattle.cg_svspec.specs.Register.{input_port, output_port}
use Rattle.cg_svspec.specs.WellFormed.{inputs_of, ends_with}
use Rattle.cg_svspec.proofs.NamesLemmas.{name_is_itself, same_name, test_of_among}
use Rattle.cg_svspec.specs.Links.{host_link, Link, link, to, to_link, inside, answer_to, has_port, comes_in, goes_out, port_number, number}
use Rattle.cg_svspec.specs.Walk.{Next, host_crossbar, End, outside, error, alone, Position, position, was_at, held_at, on, ends, step_alone, next, Way, goes, ended, start, walks}
use Rattle.cg_busspec.specs.Crossbar.{device_ranges, Crossbar, node, hosts, devices, label, reach, is_joined, has_fifo, some_holds}
use Rattle.cg_busspec.proofs.Good.{IsCrossbar}
use Rattle.cg_busspec.specs.CrossbarModule.{h_link, f_link, l_link, m_link, d_link, socket_link, joined_link, lane, crossbar_ports, crossbar_module}
use Rattle.cg_busspec.proofs.Good.{Ends}
use Rattle.cg_busspec.proofs.PartWays.{label_is}
use Rattle.cg_busspec.proofs.Places.{NamesDiffer, names_differ, host_port_in, device_port_in}
use Rattle.cg_busspec.proofs.Owners.{ports_differ, input_among}
use Rattle.cg_busspec.proofs.Selects.{address_bits, first_with}
use Rattle.cg_busspec.proofs.Steps.{over_host_fifo, over_split, over_join, over_device_fifo, at_device}

-- ---- ports

-- a number is itself
same_number : (n : ℕ) → eqb n n ≡ true
same_number n = grind arith

-- a port is found
first_found : (p : Port) (qs : List Port) → has_port (p ∷ qs) p.input p.width p.name ≡ true
first_found p qs = rw (name_is_itself p.name, same_number p.width) (by p.input) where
  by : (b : Bool) → ((cond b b (not b) && (true && true)) || has_port qs b p.width p.name) ≡ true
  by true = refl
  by false = refl

-- any port is found
port_found : (p : Port) (ps : List Port) → Among p ps → has_port ps p.input p.width p.name ≡ true
port_found p [] h = absurd h
port_found p (q ∷ qs) (inl e) = subst (λ z. has_port (z ∷ qs) p.input p.width p.name ≡ true) e (first_found p qs)
port_found p (q ∷ qs) (inr h) = rw (port_found p qs h) (either (cond q.input p.input (not p.input) && (eqb q.width p.width && bytes_eq q.name p.name))) where
  either : (b : Bool) → (b || true) ≡ true
  either true = refl
  either false = refl

-- and has its number
port_is_named : (p : Port) (ps : List Port) → Among p ps → Among p.name (port_names ps)
port_is_named p [] h = absurd h
port_is_named p (q ∷ qs) (inl e) = inl (ap (λ z. z.name) e)
port_is_named p (q ∷ qs) (inr h) = inr (port_is_named p qs h)

-- by its number
number_found : (p : Port) (ps : List Port) → Differ (port_names ps) → Among p ps → slice_get ps (port_number ps p.name) ≡ Some p
number_found p [] d h = absurd h
number_found p (q ∷ qs) d (inl e) = rw (← e, name_is_itself p.name) refl
number_found p (q ∷ qs) d (inr h) = by (bytes_eq q.name p.name) refl (number_found p qs d.1 h) where
  by : (b : Bool) → bytes_eq q.name p.name ≡ b → slice_get qs (port_number qs p.name) ≡ Some p → slice_get (q ∷ qs) (cond b 0 (suc (port_number qs p.name))) ≡ Some p
  by true e later = absurd (d.0 (subst (λ z. Among z (port_names qs)) (sym (same_name q.name p.name e)) (port_is_named p qs h)))
  by false e later = later

-- a request's name and its response's
answer_is : (start name : List ℕ) → answer_to (start ++ (name ++ codes "_req")) ≡ start ++ (name ++ codes "_rsp")
answer_is start name =
    let whole : start ++ (name ++ codes "_req") ≡ (start ++ name) ++ codes "_req" = sym (append_assoc start name (codes "_req")) in
    let short : length ((start ++ name) ++ codes "_req") - 4 ≡ length (start ++ name) = ap (λ z. z - 4) (length-append (start ++ name) (codes "_req")) ∙ four (length (start ++ name)) in
    rw (whole, short, take-append_seam (start ++ name) (codes "_req")) (append_assoc start name (codes "_rsp")) where
      four : (n : ℕ) → n + 4 - 4 ≡ n
      four n = omega arith

-- a text ends with its end
ends_so : (a e : List ℕ) → ends_with (a ++ e) e ≡ true
ends_so [] [] = refl
ends_so [] (c ∷ e) = rw (name_is_itself (c ∷ e)) refl
ends_so (c ∷ a) e = rw (ends_so a e) (either (bytes_eq (c ∷ (a ++ e)) e)) where
  either : (b : Bool) → (b || true) ≡ true
  either true = refl
  either false = refl

-- ---- in and out

-- the crossbar alone
abbrev one : Crossbar → List Module
one x = crossbar_module x ∷ []

-- a request comes in at a host's ports
comes_in_at : (x : Crossbar) (h : ℕ) → Among h (hosts x.desc) → comes_in (crossbar_module x) (h_link x.desc h) ≡ true
unfolding crossbar_module
comes_in_at x h i =
    rw (
      port_found (input_port 70 (h_link x.desc h).request) (crossbar_ports x.desc) (host_port_in x h _ i (inl refl)),
      port_found (output_port 33 (h_link x.desc h).response) (crossbar_ports x.desc) (host_port_in x h _ i (inr (inl refl))),
      answer_is (codes "h_") (label x.desc h),
    ) (name_is_itself (h_link x.desc h).response)

-- and goes out at a device's
goes_out_at : (x : Crossbar) (d : ℕ) → Among d (devices x.desc) → goes_out (crossbar_module x) (d_link x.desc d) ≡ true
unfolding crossbar_module
goes_out_at x d i =
    let end : ends_with (d_link x.desc d).request (codes "_req") ≡ true =
    subst (λ z. ends_with z (codes "_req") ≡ true) (append_assoc (codes "d_") (label x.desc d) (codes "_req")) (ends_so (codes "d_" ++ label x.desc d) (codes "_req")) in
    rw (
      port_found (output_port 70 (d_link x.desc d).request) (crossbar_ports x.desc) (device_port_in x d _ i (inl refl)),
      port_found (input_port 33 (d_link x.desc d).response) (crossbar_ports x.desc) (device_port_in x d _ i (inr (inl refl))),
      answer_is (codes "d_") (label x.desc d),
      name_is_itself (d_link x.desc d).response,
      end,
    ) refl

-- a host's request is an input
input_here : (x : Crossbar) (h : ℕ) → Among h (hosts x.desc) → is_among (inputs_of (crossbar_module x).ports) (h_link x.desc h).request ≡ true
unfolding crossbar_module
input_here x h i = test_of_among (inputs_of (crossbar_ports x.desc)) (h_link x.desc h).request (input_among (input_port 70 (h_link x.desc h).request) (crossbar_ports x.desc) (host_port_in x h _ i (inl refl)) refl)

-- the host's link, as the walk spells it
pub host_link_is : (x : Crossbar) (h : ℕ) → host_link (node x.desc h).name ≡ h_link x.desc h
unfolding label
host_link_is x h = ap (λ z. link (codes "h_" ++ (z ++ codes "_req")) (codes "h_" ++ (z ++ codes "_rsp"))) (sym (label_is (node x.desc h).name))

-- where requests on this link come in
abbrev begins : Crossbar → Link → Next
begins x l =
    cond (is_among (inputs_of (crossbar_module x).ports) l.request) (cond (comes_in (crossbar_module x) l) (on (position alone l)) (ends error))
    (host_crossbar (one x) (crossbar_module x) l 0 (crossbar_module x).entries)

-- a walk of a host begins at the host's link
starts_at : (x : Crossbar) (h : ℕ) → Among h (hosts x.desc) → start (one x) (node x.desc h).name ≡ on (position alone (h_link x.desc h))
unfolding start
starts_at x h i = ap (begins x) (host_link_is x h) ∙ entered where
  entered : begins x (h_link x.desc h) ≡ on (position alone (h_link x.desc h))
  entered = rw (input_here x h i, comes_in_at x h i) refl

-- ---- the way

-- a step in the module
next_is : (x : Crossbar) (request : Bits) (way : List Position) (l : Link) → next (one x) request way (position alone l) ≡ step_alone (crossbar_module x) l (inside (crossbar_module x) request (held_at alone way) l)
unfolding next
next_is x request way l = refl

-- the way was at no link of a device
pub record Fresh (way : List Position) : Type 0 where
  pub no_l : (n r : List ℕ) → was_at way (position alone (link (108 ∷ n) r)) ≡ false
  pub no_m : (n r : List ℕ) → was_at way (position alone (link (109 ∷ n) r)) ≡ false
  pub no_d : (n r : List ℕ) → was_at way (position alone (link (100 ∷ n) r)) ≡ false

-- the rest of a name behind its first byte
abbrev tail : List ℕ → List ℕ
tail [] = []
tail (c ∷ cs) = cs

-- over a part to a link at which the way was not
goes_to : (x : Crossbar) (request : Bits) (way : List Position) (a b : Link) (e : End) → inside (crossbar_module x) request (held_at alone (position alone a ∷ way)) a ≡ to b
    → was_at (position alone a ∷ way) (position alone b) ≡ false → Way (one x) request (position alone a ∷ way) (position alone b) e → Way (one x) request way (position alone a) e
goes_to x request way a b e step new rest = goes (next_is x request (position alone a ∷ way) a ∙ ap (step_alone (crossbar_module x) a) step) new rest

-- at the device's port
abbrev port_of : Crossbar → ℕ → ℕ
port_of x d = port_number (crossbar_module x).ports (d_link x.desc d).request

-- the way from a device's port
from_port : (x : Crossbar) (d : ℕ) (request : Bits) (way : List Position) → Among d (devices x.desc) → Way (one x) request way (position alone (d_link x.desc d)) (outside (port_of x d))
from_port x d request way i =
    ended (next_is x request (position alone (d_link x.desc d) ∷ way) (d_link x.desc d)
    ∙ ap (step_alone (crossbar_module x) (d_link x.desc d)) (at_device x d request (held_at alone (position alone (d_link x.desc d) ∷ way)) i)
    ∙ ap (λ z. cond z (ends (outside (port_of x d))) (ends error)) (goes_out_at x d i))

-- from the device's first link behind an M-to-1 socket
from_device : (x : Crossbar) → NamesDiffer x → (d : ℕ) (request : Bits) (way : List Position) → Among d (devices x.desc) → ((n r : List ℕ) → was_at way (position alone (link (100 ∷ n) r)) ≡ false)
    → (b : Bool) → has_fifo x.desc d ≡ b → Way (one x) request way (position alone (cond b (m_link x.desc d) (d_link x.desc d))) (outside (port_of x d))
from_device x n d request way i fresh false e = from_port x d request way i
from_device x n d request way i fresh true e =
    goes_to x request way (m_link x.desc d) (d_link x.desc d) (outside (port_of x d)) (over_device_fifo x n d request (held_at alone (position alone (m_link x.desc d) ∷ way)) i e)
    (fresh (tail (d_link x.desc d).request) (d_link x.desc d).response) (from_port x d request (position alone (m_link x.desc d) ∷ way) i)

-- the way was not at the link of a device
fresh_device : (x : Crossbar) (d : ℕ) (way : List Position) → Fresh way → (b : Bool) → was_at way (position alone (cond b (m_link x.desc d) (d_link x.desc d))) ≡ false
fresh_device x d way f true = f.no_m (tail (m_link x.desc d).request) (m_link x.desc d).response
fresh_device x d way f false = f.no_d (tail (d_link x.desc d).request) (d_link x.desc d).response

-- from the lane of a device behind a host's socket
from_lane : (x : Crossbar) → IsCrossbar x → NamesDiffer x → (h d : ℕ) (request : Bits) (way : List Position) → Among h (hosts x.desc) → Among d (reach x.desc h) → Fresh way
    → (b : Bool) → is_joined x.desc d ≡ b → Way (one x) request way (position alone (cond b (l_link x.desc h d) (joined_link x.desc d))) (outside (port_of x d))
unfolding joined_link
from_lane x c n h d request way i j f false e = from_device x n d request way (c.reaches h d i j) f.no_d (has_fifo x.desc d) refl
from_lane x c n h d request way i j f true e =
    goes_to x request way (l_link x.desc h d) (joined_link x.desc d) (outside (port_of x d)) (over_join x c n h d request (held_at alone (position alone (l_link x.desc h d) ∷ way)) i j e)
    (new (has_fifo x.desc d)) (from_device x n d request (position alone (l_link x.desc h d) ∷ way) (c.reaches h d i j) f.no_d (has_fifo x.desc d) refl) where
      new : (b : Bool) → was_at (position alone (l_link x.desc h d) ∷ way) (position alone (cond b (m_link x.desc d) (d_link x.desc d))) ≡ false
      new true = f.no_m (tail (m_link x.desc d).request) (m_link x.desc d).response
      new false = f.no_d (tail (d_link x.desc d).request) (d_link x.desc d).response

-- the way was not at a link behind the socket
fresh_lane : (x : Crossbar) (h d : ℕ) (way : List Position) → Fresh way → (b : Bool) → was_at way (position alone (cond b (l_link x.desc h d) (joined_link x.desc d))) ≡ false
unfolding joined_link
fresh_lane x h d way f true = f.no_l (tail (l_link x.desc h d).request) (l_link x.desc h d).response
fresh_lane x h d way f false = fresh_device x d way f (has_fifo x.desc d)

-- ---- the device that the address names

-- counting from one more
first_from : (x : Crossbar) (a j : ℕ) (ds : List ℕ) → first_with x a (suc j) ds ≡ suc (first_with x a j ds)
first_from x a j [] = refl
first_from x a j (d ∷ ds) = rw (first_from x a (suc j) ds) (by (some_holds a (device_ranges x d))) where
  by : (b : Bool) → cond b (suc j) (suc (first_with x a (suc j) ds)) ≡ suc (cond b j (first_with x a (suc j) ds))
  by true = refl
  by false = refl

-- the only one with the address
pub named_device : (x : Crossbar) (a : ℕ) (f : ℕ → Link) (ds : List ℕ) (d : ℕ) → Among d ds → some_holds a (device_ranges x d) ≡ true
    → ((e : ℕ) → Among e ds → some_holds a (device_ranges x e) ≡ true → e ≡ d) → slice_get (map f ds) (first_with x a 0 ds) ≡ Some (f d)
named_device x a f [] d h t only = absurd h
named_device x a f (e ∷ es) d h t only = rw (first_from x a 0 es) (by (λ m. named_device x a f es d m t (λ g k. only g (inr k))) (some_holds a (device_ranges x e)) refl h) where
  by : (Among d es → slice_get (map f es) (first_with x a 0 es) ≡ Some (f d)) → (b : Bool) → some_holds a (device_ranges x e) ≡ b → Among d (e ∷ es)
      → slice_get (f e ∷ map f es) (cond b 0 (suc (first_with x a 0 es))) ≡ Some (f d)
  by later true s h = ap (λ z. Some (f z)) (only e (inl refl) s)
  by later false s (inl same) = let u : true ≡ false = sym t ∙ ap (λ z. some_holds a (device_ranges x z)) same ∙ s in cc
  by later false s (inr m) = later m

-- none with it
pub no_device : (x : Crossbar) (a : ℕ) (f : ℕ → Link) (ds : List ℕ) → ((e : ℕ) → Among e ds → some_holds a (device_ranges x e) ≡ false) → slice_get (map f ds) (first_with x a 0 ds) ≡ None
no_device x a f [] all = refl
no_device x a f (e ∷ es) all = rw (all e (inl refl), first_from x a 0 es) (no_device x a f es (λ g k. all g (inr k)))

-- ---- from the host's socket

-- the position at a host's socket
socket_at : Crossbar → ℕ → Position
socket_at x h = position alone (socket_link x.desc h)

-- the step over a host's socket
split_step : (x : Crossbar) → IsCrossbar x → NamesDiffer x → (h : ℕ) (request : Bits) (way : List Position) → Among h (hosts x.desc) → length request ≡ 70
    → inside (crossbar_module x) request (held_at alone (position alone (socket_link x.desc h) ∷ way)) (socket_link x.desc h)
    ≡ to_link (slice_get (map (lane x.desc h) (reach x.desc h)) (first_with x (number (address_bits request)) 0 (reach x.desc h)))
split_step x c n h request way i long =
    over_split x c n h request (held_at alone (position alone (socket_link x.desc h) ∷ way)) i long (here (name_is_itself (socket_link x.desc h).request)) where
      here : bytes_eq (socket_link x.desc h).request (socket_link x.desc h).request ≡ true → (bytes_eq (socket_link x.desc h).request (socket_link x.desc h).request || is_among (held_at alone way) (socket_link x.desc h).request) ≡ true
      here e = rw e refl

-- the way from a host's socket to the device with the address
from_socket : (x : Crossbar) → IsCrossbar x → NamesDiffer x → (h d : ℕ) (request : Bits) (way : List Position) → Among h (hosts x.desc) → Among d (reach x.desc h) → length request ≡ 70
    → some_holds (number (address_bits request)) (device_ranges x d) ≡ true → Fresh (position alone (socket_link x.desc h) ∷ way)
    → Way (one x) request way (position alone (socket_link x.desc h)) (outside (port_of x d))
unfolding lane
from_socket x c n h d request way i j long has f =
    let named = named_device x (number (address_bits request)) (lane x.desc h) (reach x.desc h) d j has (λ e k t. c.apart h e d (number (address_bits request)) i k j t has) in
    goes_to x request way (socket_link x.desc h) (lane x.desc h d) (outside (port_of x d)) (split_step x c n h request way i long ∙ ap to_link named)
    (fresh_lane x h d (position alone (socket_link x.desc h) ∷ way) f (is_joined x.desc d)) (from_lane x c n h d request (position alone (socket_link x.desc h) ∷ way) i j f (is_joined x.desc d) refl)

-- or to none
from_socket_none : (x : Crossbar) → IsCrossbar x → NamesDiffer x → (h : ℕ) (request : Bits) (way : List Position) → Among h (hosts x.desc) → length request ≡ 70
    → ((d : ℕ) → Among d (reach x.desc h) → some_holds (number (address_bits request)) (device_ranges x d) ≡ false) → Way (one x) request way (position alone (socket_link x.desc h)) error
from_socket_none x c n h request way i long all =
    let none_named = no_device x (number (address_bits request)) (lane x.desc h) (reach x.desc h) all in
    ended (next_is x request (position alone (socket_link x.desc h) ∷ way) (socket_link x.desc h)
    ∙ ap (step_alone (crossbar_module x) (socket_link x.desc h)) (split_step x c n h request way i long ∙ ap to_link none_named))

-- ---- from the host

-- by whether it has a FIFO
from_host : (x : Crossbar) → NamesDiffer x → (h : ℕ) (request : Bits) (e : End) → Among h (hosts x.desc)
    → ((way : List Position) → Fresh (position alone (socket_link x.desc h) ∷ way) → Way (one x) request way (position alone (socket_link x.desc h)) e)
    → (b : Bool) → has_fifo x.desc h ≡ b → Way (one x) request [] (position alone (h_link x.desc h)) e
unfolding socket_link
from_host x n h request e i rest false no_fifo =
    let same : socket_link x.desc h ≡ h_link x.desc h = ap (λ z. cond z (f_link x.desc h) (h_link x.desc h)) no_fifo in
    subst (λ z. Way (one x) request [] (position alone z) e) same
    (rest [] (subst (λ z. Fresh (position alone z ∷ [])) (sym same) (record { no_l = λ n r. refl; no_m = λ n r. refl; no_d = λ n r. refl })))
from_host x n h request e i rest true fifo =
    let same : socket_link x.desc h ≡ f_link x.desc h = ap (λ z. cond z (f_link x.desc h) (h_link x.desc h)) fifo in
    goes_to x request [] (h_link x.desc h) (f_link x.desc h) e (over_host_fifo x n h request (held_at alone (position alone (h_link x.desc h) ∷ [])) i fifo) refl
    (subst (λ z. Way (one x) request (position alone (h_link x.desc h) ∷ []) (position alone z) e) same
    (rest (position alone (h_link x.desc h) ∷ []) (subst (λ z. Fresh (position alone z ∷ position alone (h_link x.desc h) ∷ [])) (sym same) (record { no_l = λ n r. refl; no_m = λ n r. refl; no_d = λ n r. refl }))))

-- the port's number
port_number_is : (x : Crossbar) → NamesDiffer x → (d : ℕ) → Among d (devices x.desc) → slice_get (crossbar_module x).ports (port_of x d) ≡ Some (output_port 70 (d_link x.desc d).request)
unfolding crossbar_module
port_number_is x n d i = number_found (output_port 70 (d_link x.desc d).request) (crossbar_ports x.desc) (ports_differ x n) (device_port_in x d _ i (inl refl))

-- Where requests end.
pub crossbar_routes : (x : Crossbar) → IsCrossbar x → Differ (module_names (crossbar_module x)) → Ends (crossbar_module x) x
crossbar_routes x c d =
    let n = names_differ x d in
    record {
      reaches = λ h e request i j long has. (
        port_of x e,
        port_number_is x n e (c.reaches h e i j),
        walks (starts_at x h i) (from_host x n h request (outside (port_of x e)) i (λ way f. from_socket x c n h e request way i j long has f) (has_fifo x.desc h) refl),
      );
      reaches_none = λ h request i long all.
          walks (starts_at x h i) (from_host x n h request error i (λ way f. from_socket_none x c n h request way i long all) (has_fifo x.desc h) refl);
    }
