-- The way inside a crossbar's module, and as part of any way.
use Rattle.std.proofs.Common.{◌≡◌, ℕ, Bool, true, false, cond, arith, ◌&&◌, ◌||◌, List, [], ◌∷◌, map, length, refl, ap, sym, subst, ◌∙◌, Option, Some, None}
use Rattle.std.specs.Prelude.{slice_get}
use Rattle.std.specs.Str.{bytes_eq}
use Rattle.cg_svspec.specs.Bits.{Bits}
use Rattle.cg_svspec.specs.Names.{is_among, Differ, module_names, Among}
use Rattle.cg_svspec.specs.Tree.{Connection, Parameter, inst, Module}
use Rattle.cg_svspec.proofs.NamesLemmas.{name_is_itself}
use Rattle.cg_svspec.specs.Links.{Link, Onward, to, stuck, to_link, inside, number}
use Rattle.cg_svspec.specs.Walk.{End, error, Place, within, same_place, Position, position, was_at, held_at, step_within, module_named, next, Way, goes, ended}
use Rattle.cg_busspec.specs.Crossbar.{device_ranges, Crossbar, node, hosts, devices, reach, is_joined, has_fifo, some_holds}
use Rattle.cg_busspec.proofs.Good.{IsCrossbar}
use Rattle.cg_busspec.specs.CrossbarModule.{h_link, f_link, l_link, m_link, d_link, socket_link, joined_link, lane, crossbar_module}
use Rattle.cg_busspec.specs.Passage.{Passes, out, ends_here, over}
use Rattle.cg_busspec.proofs.Good.{Leads}
use Rattle.cg_busspec.proofs.Places.{NamesDiffer, names_differ}
use Rattle.cg_busspec.proofs.Selects.{address_bits, first_with}
use Rattle.cg_busspec.proofs.Steps.{over_host_fifo, over_split, over_join, over_device_fifo, at_device}
use Rattle.cg_busspec.proofs.Ways.{named_device, no_device}

-- ---- inside the crossbar's module

-- the names that hold the request are of hosts alone
pub record Early (held : List (List ℕ)) : Type 0 where
  pub no_l : (n : List ℕ) → is_among held (108 ∷ n) ≡ false
  pub no_m : (n : List ℕ) → is_among held (109 ∷ n) ≡ false
  pub no_d : (n : List ℕ) → is_among held (100 ∷ n) ≡ false

-- the rest of a name behind its first byte
abbrev tail : List ℕ → List ℕ
tail [] = []
tail (c ∷ cs) = cs

-- the way from a device's first link behind an M-to-1 socket
from_device : (x : Crossbar) → NamesDiffer x → (d : ℕ) (request : Bits) (held : List (List ℕ)) → Among d (devices x.desc) → ((n : List ℕ) → is_among held (100 ∷ n) ≡ false)
    → (b : Bool) → has_fifo x.desc d ≡ b → Passes (crossbar_module x) request held (cond b (m_link x.desc d) (d_link x.desc d)) (Some (d_link x.desc d))
from_device x n d request held i new false e = out (at_device x d request ((d_link x.desc d).request ∷ held) i)
from_device x n d request held i new true e =
    over (over_device_fifo x n d request ((m_link x.desc d).request ∷ held) i e) (new (tail (d_link x.desc d).request)) (out (at_device x d request ((d_link x.desc d).request ∷ ((m_link x.desc d).request ∷ held)) i))

-- from a link behind a host's socket
from_lane : (x : Crossbar) → IsCrossbar x → NamesDiffer x → (h d : ℕ) (request : Bits) (held : List (List ℕ)) → Among h (hosts x.desc) → Among d (reach x.desc h) → Early held
    → (b : Bool) → is_joined x.desc d ≡ b → Passes (crossbar_module x) request held (cond b (l_link x.desc h d) (joined_link x.desc d)) (Some (d_link x.desc d))
unfolding joined_link
from_lane x c n h d request held i j f false e = from_device x n d request held (c.reaches h d i j) f.no_d (has_fifo x.desc d) refl
from_lane x c n h d request held i j f true e =
    over (over_join x c n h d request ((l_link x.desc h d).request ∷ held) i j e) (new (has_fifo x.desc d)) (from_device x n d request ((l_link x.desc h d).request ∷ held) (c.reaches h d i j) f.no_d (has_fifo x.desc d) refl) where
      new : (b : Bool) → is_among ((l_link x.desc h d).request ∷ held) (cond b (m_link x.desc d) (d_link x.desc d)).request ≡ false
      new true = f.no_m (tail (m_link x.desc d).request)
      new false = f.no_d (tail (d_link x.desc d).request)

-- the way was not at such a link
new_lane : (x : Crossbar) (h d : ℕ) (held : List (List ℕ)) → Early held → (b c : Bool) → is_among held (cond b (l_link x.desc h d) (cond c (m_link x.desc d) (d_link x.desc d))).request ≡ false
new_lane x h d held f true c = f.no_l (tail (l_link x.desc h d).request)
new_lane x h d held f false true = f.no_m (tail (m_link x.desc d).request)
new_lane x h d held f false false = f.no_d (tail (d_link x.desc d).request)

-- the step over a host's socket
split_step : (x : Crossbar) → IsCrossbar x → NamesDiffer x → (h : ℕ) (request : Bits) (held : List (List ℕ)) → Among h (hosts x.desc) → length request ≡ 70
    → inside (crossbar_module x) request ((socket_link x.desc h).request ∷ held) (socket_link x.desc h)
    ≡ to_link (slice_get (map (lane x.desc h) (reach x.desc h)) (first_with x (number (address_bits request)) 0 (reach x.desc h)))
split_step x c n h request held i long = over_split x c n h request ((socket_link x.desc h).request ∷ held) i long (here (name_is_itself (socket_link x.desc h).request)) where
  here : bytes_eq (socket_link x.desc h).request (socket_link x.desc h).request ≡ true → is_among ((socket_link x.desc h).request ∷ held) (socket_link x.desc h).request ≡ true
  here e = rw e refl

-- the way from a host's socket
from_socket : (x : Crossbar) → IsCrossbar x → NamesDiffer x → (h d : ℕ) (request : Bits) (held : List (List ℕ)) → Among h (hosts x.desc) → Among d (reach x.desc h) → length request ≡ 70
    → some_holds (number (address_bits request)) (device_ranges x d) ≡ true → Early ((socket_link x.desc h).request ∷ held)
    → Passes (crossbar_module x) request held (socket_link x.desc h) (Some (d_link x.desc d))
unfolding lane joined_link
from_socket x c n h d request held i j long has f =
    let named = named_device x (number (address_bits request)) (lane x.desc h) (reach x.desc h) d j has (λ e k t. c.apart h e d (number (address_bits request)) i k j t has) in
    over (split_step x c n h request held i long ∙ ap to_link named) (new_lane x h d ((socket_link x.desc h).request ∷ held) f (is_joined x.desc d) (has_fifo x.desc d))
    (from_lane x c n h d request ((socket_link x.desc h).request ∷ held) i j f (is_joined x.desc d) refl)

-- and from the host's link
from_host : (x : Crossbar) → NamesDiffer x → (h : ℕ) (request : Bits) (o : Option Link) → Among h (hosts x.desc)
    → ((held : List (List ℕ)) → Early ((socket_link x.desc h).request ∷ held) → Passes (crossbar_module x) request held (socket_link x.desc h) o)
    → (b : Bool) → has_fifo x.desc h ≡ b → Passes (crossbar_module x) request [] (h_link x.desc h) o
unfolding socket_link
from_host x n h request o i rest false no_fifo =
    let same : socket_link x.desc h ≡ h_link x.desc h = ap (λ z. cond z (f_link x.desc h) (h_link x.desc h)) no_fifo in
    subst (λ z. Passes (crossbar_module x) request [] z o) same
    (rest [] (subst (λ z. Early (z.request ∷ [])) (sym same) (record { no_l = λ n. refl; no_m = λ n. refl; no_d = λ n. refl })))
from_host x n h request o i rest true fifo =
    let same : socket_link x.desc h ≡ f_link x.desc h = ap (λ z. cond z (f_link x.desc h) (h_link x.desc h)) fifo in
    over (over_host_fifo x n h request ((h_link x.desc h).request ∷ []) i fifo) refl
    (subst (λ z. Passes (crossbar_module x) request ((h_link x.desc h).request ∷ []) z o) same
    (rest ((h_link x.desc h).request ∷ []) (subst (λ z. Early (z.request ∷ ((h_link x.desc h).request ∷ []))) (sym same) (record { no_l = λ n. refl; no_m = λ n. refl; no_d = λ n. refl }))))

-- The way inside a crossbar's module.
pub crossbar_leads : (x : Crossbar) → IsCrossbar x → Differ (module_names (crossbar_module x)) → Leads (crossbar_module x) x
crossbar_leads x c d =
    let n = names_differ x d in
    record {
      leads = λ h e request i j long has. from_host x n h request (Some (d_link x.desc e)) i (λ held f. from_socket x c n h e request held i j long has f) (has_fifo x.desc h) refl;
      stops = λ h request i long all. from_host x n h request None i
          (λ held f. ends_here (split_step x c n h request held i long ∙ ap to_link (no_device x (number (address_bits request)) (lane x.desc h) (reach x.desc h) all))) (has_fifo x.desc h) refl;
    }

-- ---- as part of a way

-- the way was at a link of a place where the link's net holds the request there
was_held : (way : List Position) (place : Place) (l : Link) → was_at way (position place l) ≡ is_among (held_at place way) l.request
was_held [] place l = refl
was_held (x ∷ xs) place l = rw (was_held xs place l) (by (same_place x.place place)) where
  by : (b : Bool) → ((b && bytes_eq x.link.request l.request) || is_among (held_at place xs) l.request) ≡ is_among (cond b (x.link.request ∷ held_at place xs) (held_at place xs)) l.request
  by true = refl
  by false = refl

-- a place is itself
same_within : (i : ℕ) → same_place (within i) (within i) ≡ true
same_within i = grind arith

-- A crossbar that is an instance of the first module: entry i, of module m.
pub record Instance (modules : List Module) (first : Module) (rest : List Module) (i : ℕ) (m : Module) (cs : List Connection) : Type 0 where
  pub modules_are : modules ≡ first ∷ rest
  pub part : List ℕ
  pub parameters : List Parameter
  pub name : List ℕ
  pub entry : slice_get first.entries i ≡ Some (inst part parameters name cs)
  pub found : module_named modules part ≡ Some m

-- its steps
next_within : (modules : List Module) (first : Module) (rest : List Module) (i : ℕ) (m : Module) (cs : List Connection) → Instance modules first rest i m cs → (request : Bits) (way : List Position) (l : Link) (o : Onward)
    → inside m request (held_at (within i) way) l ≡ o → next modules request way (position (within i) l) ≡ step_within first i m cs l o
unfolding next
next_within modules first rest i m cs t request way l o step =
    let found : module_named (first ∷ rest) t.part ≡ Some m = subst (λ z. module_named z t.part ≡ Some m) t.modules_are t.found in
    rw (t.modules_are, t.entry, found, step) refl

-- Where a request passes a crossbar, a way through its instance goes on as from the link by which it leaves.
pub way_through : (modules : List Module) (first : Module) (rest : List Module) (i : ℕ) (m : Module) (cs : List Connection) → Instance modules first rest i m cs → (request : Bits) (held : List (List ℕ)) (a b : Link) (e : End)
    → Passes m request held a (Some b) → (way : List Position) → held_at (within i) way ≡ held → ((later : List Position) → Way modules request later (position (within i) b) e) → Way modules request way (position (within i) a) e
way_through modules first rest i m cs t request held a b e (out step) way is last = last way
way_through modules first rest i m cs t request held a b e (over {b = k} step new passes) way is last =
    let holds : held_at (within i) (position (within i) a ∷ way) ≡ a.request ∷ held = rw (same_within i, is) refl in
    goes (next_within modules first rest i m cs t request (position (within i) a ∷ way) a (to k) (ap (λ z. inside m request z a) holds ∙ step))
    (was_held (position (within i) a ∷ way) (within i) k ∙ ap (λ z. is_among z k.request) holds ∙ new)
    (way_through modules first rest i m cs t request (a.request ∷ held) k b e passes (position (within i) a ∷ way) holds last)

-- and where it is stuck, the end is an error
pub way_stuck : (modules : List Module) (first : Module) (rest : List Module) (i : ℕ) (m : Module) (cs : List Connection) → Instance modules first rest i m cs → (request : Bits) (held : List (List ℕ)) (a : Link)
    → Passes m request held a None → (way : List Position) → held_at (within i) way ≡ held → Way modules request way (position (within i) a) error
way_stuck modules first rest i m cs t request held a (ends_here step) way is =
    let holds : held_at (within i) (position (within i) a ∷ way) ≡ a.request ∷ held = rw (same_within i, is) refl in
    ended (next_within modules first rest i m cs t request (position (within i) a ∷ way) a stuck (ap (λ z. inside m request z a) holds ∙ step))
way_stuck modules first rest i m cs t request held a (over {b = k} step new passes) way is =
    let holds : held_at (within i) (position (within i) a ∷ way) ≡ a.request ∷ held = rw (same_within i, is) refl in
    goes (next_within modules first rest i m cs t request (position (within i) a ∷ way) a (to k) (ap (λ z. inside m request z a) holds ∙ step))
    (was_held (position (within i) a ∷ way) (within i) k ∙ ap (λ z. is_among z k.request) holds ∙ new)
    (way_stuck modules first rest i m cs t request (a.request ∷ held) k passes (position (within i) a ∷ way) holds)
