-- The list of a crossbar's parts has exactly its parts, in order.
use Rattle.std.proofs.Common.{◌≡◌, ◌≢◌, ℕ, zero, suc, ◌+◌, ◌<◌, ◌≤◌, nat_le, Bool, true, false, not, cond, List, [], ◌∷◌, ◌++◌, length, Option, Some, None, inl, inr, refl, sym, ap, subst, ◌∙◌, arith}
use Rattle.std.specs.Prelude.{◌==◌, filter, flat_map, slice_get}
use Rattle.std.specs.List.{list_any}
use Rattle.std.specs.Option.{option_map_or}
use Rattle.std.specs.Str.{bytes_eq}
use Rattle.std.proofs.lemmas.Bool.{eq-eqb, eqb-true, false_from_ne_true, false≢true, not-true, or_cases, or_left, or_right}
use Rattle.std.proofs.lemmas.Bool.Decides.{nat_tests}
use Rattle.std.proofs.lemmas.Slice.Eq.{bytes_eq-Decides}
use Rattle.cg_svspec.specs.Names.{Among}
use Rattle.cg_desc.specs.Crossbar.{Connects, IsDevice, IsHost}
use Rattle.cg_desc.specs.declared.crossbar.NodeDesc.{NodeDesc}
use Rattle.cg_desc.specs.declared.crossbar.XbarDesc.{XbarDesc}
use Rattle.cg_nodes.specs.Listed.{connects, device_parts, devices_of, feeders_of, has_fifo, has_join, host_parts, hosts_of, numbers_of, parts_of}
use Rattle.cg_nodes.specs.Order.{Rises}
use Rattle.cg_nodes.specs.Parts as part
use Rattle.cg_nodes.specs.Parts.{HasOtherClock, HasTwoHosts, IsPartOf, IsParts, Precedes}
use Rattle.cg_nodes.specs.declared.parts.Part.{Part}
use Rattle.cg_nodes.specs.declared.parts.Part.TheVariants.{HostFifo, Split, Join, DeviceFifo}
use Rattle.cg_nodes.proofs.Order.{all_among, among_all, among_either, among_flat_map, among_left, among_right, flat_map_among, one_rising, rises_append, rises_flat_map}

-- ---- nodes by their numbers

-- the number is i more than a node's place, and the node is a host, or a device
record Numbered (host : Bool) (i : ℕ) (nodes : List NodeDesc) (n : ℕ) : Type 0 where
  place : ℕ
  node : NodeDesc
  is : n ≡ i + place
  there : slice_get nodes place ≡ Some node
  side : node.host ≡ host

side_of : (host h : Bool) → cond host h (not h) ≡ true → h ≡ host
side_of true h is = is
side_of false true is = cc
side_of false false is = refl

of_side : (host h : Bool) → h ≡ host → cond host h (not h) ≡ true
of_side true h is = is
of_side false true is = cc
of_side false false is = refl

later : (host : Bool) (i : ℕ) (node : NodeDesc) (nodes : List NodeDesc) (n : ℕ) → Numbered host (suc i) nodes n → Numbered host i (node ∷ nodes) n
later host i node nodes n m = record { place = suc m.place; node = m.node; is = m.is ∙ omega arith; there = m.there; side = m.side }

in_numbers : (host : Bool) (i : ℕ) (nodes : List NodeDesc) (n : ℕ) → Among n (numbers_of host i nodes) → Numbered host i nodes n
unfolding numbers_of
in_numbers host i [] n among = absurd among
in_numbers host i (node ∷ nodes) n among = by (λ h. in_numbers host (suc i) nodes n h) (cond host node.host (not node.host)) refl among
  where
    by : (Among n (numbers_of host (suc i) nodes) → Numbered host (suc i) nodes n) → (b : Bool) → cond host node.host (not node.host) ≡ b
        → Among n (cond b (i ∷ numbers_of host (suc i) nodes) (numbers_of host (suc i) nodes)) → Numbered host i (node ∷ nodes) n
    by rest true is (inl same) = record { place = 0; node = node; is = same ∙ omega arith; there = refl; side = side_of host node.host is }
    by rest true is (inr among) = later host i node nodes n (rest among)
    by rest false is among = later host i node nodes n (rest among)

numbers_have : (host : Bool) (i : ℕ) (nodes : List NodeDesc) (place : ℕ) (node : NodeDesc) → slice_get nodes place ≡ Some node → node.host ≡ host → Among (i + place) (numbers_of host i nodes)
unfolding numbers_of
numbers_have host i [] place node there side = cc
numbers_have host i (first ∷ nodes) zero node there side =
    let is : first ≡ node = cc in
    subst (λ b. Among (i + 0) (cond b (i ∷ numbers_of host (suc i) nodes) (numbers_of host (suc i) nodes)))
    (sym (of_side host first.host (ap (λ (n : NodeDesc). n.host) is ∙ side))) (inl (omega arith))
numbers_have host i (first ∷ nodes) (suc place) node there side =
    let moved : suc i + place ≡ i + suc place = omega arith in
    by (subst (λ n. Among n (numbers_of host (suc i) nodes)) moved (numbers_have host (suc i) nodes place node there side)) (cond host first.host (not first.host))
  where
    by : Among (i + suc place) (numbers_of host (suc i) nodes) → (b : Bool) → Among (i + suc place) (cond b (i ∷ numbers_of host (suc i) nodes) (numbers_of host (suc i) nodes))
    by rest true = inr rest
    by rest false = rest

numbers_rise : (host : Bool) (i : ℕ) (nodes : List NodeDesc) → Rises (λ a b. a < b) (numbers_of host i nodes)
unfolding numbers_of
numbers_rise host i [] = tt
numbers_rise host i (node ∷ nodes) = by (numbers_rise host (suc i) nodes) (cond host node.host (not node.host))
  where
    above : (n : ℕ) → Numbered host (suc i) nodes n → i < n
    above n m = let is = m.is in omega arith

    by : Rises (λ a b. a < b) (numbers_of host (suc i) nodes) → (b : Bool)
        → Rises (λ a b. a < b) (cond b (i ∷ numbers_of host (suc i) nodes) (numbers_of host (suc i) nodes))
    by rest true = (among_all (λ n. i < n) (numbers_of host (suc i) nodes) (λ n among. above n (in_numbers host (suc i) nodes n among)), rest)
    by rest false = rest

-- ---- hosts and devices

host_is : (x : XbarDesc) (h : ℕ) → Among h (hosts_of x) → IsHost x h
unfolding hosts_of
host_is x h among =
    let m = in_numbers true 0 x.nodes h among in
    let place : m.place ≡ h = let is = m.is in omega arith in
    (m.node, ap (slice_get x.nodes) (sym place) ∙ m.there, m.side)

is_host : (x : XbarDesc) (h : ℕ) → IsHost x h → Among h (hosts_of x)
unfolding hosts_of
is_host x h (node, there, side) =
    let same : 0 + h ≡ h = omega arith in
    subst (λ n. Among n (numbers_of true 0 x.nodes)) same (numbers_have true 0 x.nodes h node there side)

device_is : (x : XbarDesc) (d : ℕ) → Among d (devices_of x) → IsDevice x d
unfolding devices_of
device_is x d among =
    let m = in_numbers false 0 x.nodes d among in
    let place : m.place ≡ d = let is = m.is in omega arith in
    (m.node, ap (slice_get x.nodes) (sym place) ∙ m.there, m.side)

is_device : (x : XbarDesc) (d : ℕ) → IsDevice x d → Among d (devices_of x)
unfolding devices_of
is_device x d (node, there, side) =
    let same : 0 + d ≡ d = omega arith in
    subst (λ n. Among n (numbers_of false 0 x.nodes)) same (numbers_have false 0 x.nodes d node there side)

-- ---- FIFOs

fifo_is : (x : XbarDesc) (i : ℕ) → has_fifo x i ≡ true → HasOtherClock x i
unfolding has_fifo
fifo_is x i has = by (slice_get x.nodes i) refl has
  where
    by : (o : Option NodeDesc) → slice_get x.nodes i ≡ o → option_map_or (λ node. not (bytes_eq node.clock x.clock)) o false ≡ true → HasOtherClock x i
    by None there h = cc
    by (Some node) there h =
        (node, there, λ same. false≢true (sym (not-true (bytes_eq node.clock x.clock) h) ∙ (bytes_eq-Decides node.clock x.clock).1 same))

is_fifo : (x : XbarDesc) (i : ℕ) → HasOtherClock x i → has_fifo x i ≡ true
unfolding has_fifo
is_fifo x i (node, there, other) =
    subst (λ (o : Option NodeDesc). option_map_or (λ node. not (bytes_eq node.clock x.clock)) o false ≡ true) (sym there)
    (ap not (false_from_ne_true (bytes_eq node.clock x.clock) (λ same. other ((bytes_eq-Decides node.clock x.clock).0 same))))

-- ---- joins

any_number : (d : ℕ) (ns : List ℕ) → list_any (λ e. e == d) ns ≡ true → Among d ns
any_number d [] any = cc
any_number d (n ∷ ns) any = elim (or_cases (n == d) (list_any (λ e. e == d) ns) any) [ inl here ↦ inl (sym (eqb-true n d here)) | inr there ↦ inr (any_number d ns there) ]

number_any : (d : ℕ) (ns : List ℕ) → Among d ns → list_any (λ e. e == d) ns ≡ true
number_any d [] among = absurd among
number_any d (n ∷ ns) (inl is) = or_left (n == d) (list_any (λ e. e == d) ns) (eq-eqb n d (sym is))
number_any d (n ∷ ns) (inr among) = or_right (n == d) (list_any (λ e. e == d) ns) (number_any d ns among)

in_filter : {X : Type 0} (p : X → Bool) (xs : List X) (x : X) → Among x (filter p xs) → Among x xs × (p x ≡ true)
in_filter p [] x among = absurd among
in_filter {X} p (y ∷ ys) x among = by (λ h. in_filter p ys x h) (p y) refl among
  where
    by : (Among x (filter p ys) → Among x ys × (p x ≡ true)) → (b : Bool) → p y ≡ b → Among x (cond b (y ∷ filter p ys) (filter p ys)) → Among x (y ∷ ys) × (p x ≡ true)
    by rest true is (inl same) = (inl same, ap p same ∙ is)
    by rest true is (inr among) = (inr (rest among).0, (rest among).1)
    by rest false is among = (inr (rest among).0, (rest among).1)

filter_has : {X : Type 0} (p : X → Bool) (xs : List X) (x : X) → Among x xs → p x ≡ true → Among x (filter p xs)
filter_has p [] x among passes = absurd among
filter_has {X} p (y ∷ ys) x among passes = by (λ h. filter_has p ys x h passes) (p y) refl among
  where
    by : (Among x ys → Among x (filter p ys)) → (b : Bool) → p y ≡ b → Among x (y ∷ ys) → Among x (cond b (y ∷ filter p ys) (filter p ys))
    by rest true is (inl same) = inl same
    by rest true is (inr among) = inr (rest among)
    by rest false is (inl same) = absurd (false≢true (sym is ∙ ap p (sym same) ∙ passes))
    by rest false is (inr among) = rest among

filter_rises : {X : Type 0} (R : X → X → Type 0) (p : X → Bool) (xs : List X) → Rises R xs → Rises R (filter p xs)
filter_rises R p [] up = tt
filter_rises {X} R p (y ∷ ys) up = by (filter_rises R p ys up.1) (p y)
  where
    by : Rises R (filter p ys) → (b : Bool) → Rises R (cond b (y ∷ filter p ys) (filter p ys))
    by rest true = (among_all (R y) (filter p ys) (λ x among. all_among (R y) ys x up.0 (in_filter p ys x among).0), rest)
    by rest false = rest

connects_is : (x : XbarDesc) (d h : ℕ) → IsHost x h → connects x d h ≡ true → Connects x h d
unfolding connects
connects_is x d h (node, there, side) has =
    (node, there, side, any_number d node.to (subst (λ (o : Option NodeDesc). option_map_or (λ node. list_any (λ e. e == d) node.to) o false ≡ true) there has))

is_connects : (x : XbarDesc) (d h : ℕ) → Connects x h d → connects x d h ≡ true
unfolding connects
is_connects x d h (node, there, side, among) =
    subst (λ (o : Option NodeDesc). option_map_or (λ node. list_any (λ e. e == d) node.to) o false ≡ true) (sym there) (number_any d node.to among)

feeder_is : (x : XbarDesc) (d h : ℕ) → Among h (feeders_of x d) → Connects x h d
unfolding feeders_of
feeder_is x d h among = let both = in_filter (connects x d) (hosts_of x) h among in connects_is x d h (host_is x h both.0) both.1

is_feeder : (x : XbarDesc) (d h : ℕ) → Connects x h d → Among h (feeders_of x d)
unfolding feeders_of
is_feeder x d h c = filter_has (connects x d) (hosts_of x) h (is_host x h (c.0, c.1, c.2)) (is_connects x d h c)

two_of : (ns : List ℕ) → Rises (λ a b. a < b) ns → nat_le 2 (length ns) ≡ true → (a : ℕ) × (b : ℕ) × (a ≢ b) × Among a ns × Among b ns
two_of [] up long = absurd (let h : 2 ≤ 0 = grind (arith, nat_tests) in omega arith)
two_of (a ∷ []) up long = absurd (let h : 2 ≤ 1 = grind (arith, nat_tests) in omega arith)
two_of (a ∷ b ∷ ns) up long = (a, b, λ same. absurd (let lt : a < b = up.0.0 in omega arith), inl refl, inr (inl refl))

long_two : (ns : List ℕ) (a b : ℕ) → a ≢ b → Among a ns → Among b ns → nat_le 2 (length ns) ≡ true
long_two [] a b other here there = absurd here
long_two (n ∷ []) a b other (inl x) (inl y) = absurd (other (x ∙ sym y))
long_two (n ∷ []) a b other (inl x) (inr y) = absurd y
long_two (n ∷ []) a b other (inr x) there = absurd x
long_two (n ∷ m ∷ ns) a b other here there = let h : 2 ≤ suc (suc (length ns)) = omega arith in grind (arith, nat_tests)

feeders_rise : (x : XbarDesc) (d : ℕ) → Rises (λ a b. a < b) (feeders_of x d)
unfolding feeders_of hosts_of
feeders_rise x d = filter_rises (λ a b. a < b) (connects x d) (numbers_of true 0 x.nodes) (numbers_rise true 0 x.nodes)

join_is : (x : XbarDesc) (d : ℕ) → has_join x d ≡ true → HasTwoHosts x d
unfolding has_join
join_is x d has =
    let two = two_of (feeders_of x d) (feeders_rise x d) has in
    (two.0, two.1, two.2, feeder_is x d two.0 two.3, feeder_is x d two.1 two.4)

is_join : (x : XbarDesc) (d : ℕ) → HasTwoHosts x d → has_join x d ≡ true
unfolding has_join
is_join x d (a, b, other, first, second) = long_two (feeders_of x d) a b other (is_feeder x d a first) (is_feeder x d b second)

-- ---- parts

in_when : (b : Bool) (p q : Part) → Among p (cond b (q ∷ []) []) → (b ≡ true) × (p ≡ q)
in_when true p q (inl is) = (refl, is)
in_when true p q (inr none) = absurd none
in_when false p q none = absurd none

when_has : (b : Bool) (p : Part) → b ≡ true → Among p (cond b (p ∷ []) [])
when_has true p is = inl refl
when_has false p is = cc

in_host_parts : (x : XbarDesc) (h : ℕ) (p : Part) → IsHost x h → Among p (host_parts x h) → IsPartOf x p
unfolding host_parts
in_host_parts x h p host among =
    elim (among_either p (cond (has_fifo x h) (HostFifo h ∷ []) []) (Split h ∷ []) among) [
      | inl fifo ↦ let is = in_when (has_fifo x h) p (HostFifo h) fifo in subst (IsPartOf x) (sym is.1) (part.host_fifo h host (fifo_is x h is.0))
      | inr split ↦ elim split [ inl is ↦ subst (IsPartOf x) (sym is) (part.split h host) | inr none ↦ absurd none ]
    ]

in_device_parts : (x : XbarDesc) (d : ℕ) (p : Part) → IsDevice x d → Among p (device_parts x d) → IsPartOf x p
unfolding device_parts
in_device_parts x d p device among =
    elim (among_either p (cond (has_join x d) (Join d ∷ []) []) (cond (has_fifo x d) (DeviceFifo d ∷ []) []) among) [
      | inl join ↦ let is = in_when (has_join x d) p (Join d) join in subst (IsPartOf x) (sym is.1) (part.join d device (join_is x d is.0))
      | inr fifo ↦ let is = in_when (has_fifo x d) p (DeviceFifo d) fifo in subst (IsPartOf x) (sym is.1) (part.device_fifo d device (fifo_is x d is.0))
    ]

in_parts : (x : XbarDesc) (p : Part) → Among p (parts_of x) → IsPartOf x p
unfolding parts_of
in_parts x p among =
    elim (among_either p (flat_map (host_parts x) (hosts_of x)) (flat_map (device_parts x) (devices_of x)) among) [
      | inl hosts ↦ let from = among_flat_map (host_parts x) (hosts_of x) p hosts in in_host_parts x from.item p (host_is x from.item from.among) from.found
      | inr devices ↦ let from = among_flat_map (device_parts x) (devices_of x) p devices in in_device_parts x from.item p (device_is x from.item from.among) from.found
    ]

of_host : (x : XbarDesc) (h : ℕ) (p : Part) → IsHost x h → Among p (host_parts x h) → Among p (parts_of x)
unfolding parts_of
of_host x h p host found =
    among_left p (flat_map (host_parts x) (hosts_of x)) (flat_map (device_parts x) (devices_of x)) (flat_map_among (host_parts x) (hosts_of x) h p (is_host x h host) found)

of_device : (x : XbarDesc) (d : ℕ) (p : Part) → IsDevice x d → Among p (device_parts x d) → Among p (parts_of x)
unfolding parts_of
of_device x d p device found =
    among_right p (flat_map (host_parts x) (hosts_of x)) (flat_map (device_parts x) (devices_of x)) (flat_map_among (device_parts x) (devices_of x) d p (is_device x d device) found)

parts_have : (x : XbarDesc) (p : Part) → IsPartOf x p → Among p (parts_of x)
unfolding host_parts device_parts
parts_have x p (part.host_fifo h host other) =
    of_host x h (HostFifo h) host (among_left (HostFifo h) (cond (has_fifo x h) (HostFifo h ∷ []) []) (Split h ∷ []) (when_has (has_fifo x h) (HostFifo h) (is_fifo x h other)))
parts_have x p (part.split h host) = of_host x h (Split h) host (among_right (Split h) (cond (has_fifo x h) (HostFifo h ∷ []) []) (Split h ∷ []) (inl refl))
parts_have x p (part.join d device two) =
    of_device x d (Join d) device (among_left (Join d) (cond (has_join x d) (Join d ∷ []) []) (cond (has_fifo x d) (DeviceFifo d ∷ []) []) (when_has (has_join x d) (Join d) (is_join x d two)))
parts_have x p (part.device_fifo d device other) =
    of_device x d (DeviceFifo d) device (among_right (DeviceFifo d) (cond (has_join x d) (Join d ∷ []) []) (cond (has_fifo x d) (DeviceFifo d ∷ []) []) (when_has (has_fifo x d) (DeviceFifo d) (is_fifo x d other)))

-- ---- their order

-- the parts of a host stand at it, on the hosts' side
host_place : (x : XbarDesc) (h : ℕ) (p : Part) → Among p (host_parts x h) → (part.side p ≡ 0) × (part.node_of p ≡ h)
unfolding host_parts
host_place x h p among =
    elim (among_either p (cond (has_fifo x h) (HostFifo h ∷ []) []) (Split h ∷ []) among) [
      | inl fifo ↦ let is = in_when (has_fifo x h) p (HostFifo h) fifo in (ap part.side is.1, ap part.node_of is.1)
      | inr split ↦ elim split [ inl is ↦ (ap part.side is, ap part.node_of is) | inr none ↦ absurd none ]
    ]

device_place : (x : XbarDesc) (d : ℕ) (p : Part) → Among p (device_parts x d) → (part.side p ≡ 1) × (part.node_of p ≡ d)
unfolding device_parts
device_place x d p among =
    elim (among_either p (cond (has_join x d) (Join d ∷ []) []) (cond (has_fifo x d) (DeviceFifo d ∷ []) []) among) [
      | inl join ↦ let is = in_when (has_join x d) p (Join d) join in (ap part.side is.1, ap part.node_of is.1)
      | inr fifo ↦ let is = in_when (has_fifo x d) p (DeviceFifo d) fifo in (ap part.side is.1, ap part.node_of is.1)
    ]

host_rises : (x : XbarDesc) (h : ℕ) → Rises Precedes (host_parts x h)
unfolding host_parts
host_rises x h = by (has_fifo x h)
  where
    by : (b : Bool) → Rises Precedes (cond b (HostFifo h ∷ []) [] ++ (Split h ∷ []))
    by true = ((part.by_step refl refl (omega arith), tt), (tt, tt))
    by false = (tt, tt)

device_rises : (x : XbarDesc) (d : ℕ) → Rises Precedes (device_parts x d)
unfolding device_parts
device_rises x d = by (has_join x d) (has_fifo x d)
  where
    by : (a b : Bool) → Rises Precedes (cond a (Join d ∷ []) [] ++ cond b (DeviceFifo d ∷ []) [])
    by true true = ((part.by_step refl refl (omega arith), tt), (tt, tt))
    by true false = (tt, tt)
    by false true = (tt, tt)
    by false false = tt

parts_rise : (x : XbarDesc) → Rises Precedes (parts_of x)
unfolding parts_of hosts_of devices_of
parts_rise x =
    rises_append Precedes (flat_map (host_parts x) (hosts_of x)) (flat_map (device_parts x) (devices_of x))
    (rises_flat_map Precedes (λ a b. a < b) (host_parts x) (hosts_of x) (host_rises x)
    (λ a b p q lt in_a in_b. let pa = host_place x a p in_a in let qb = host_place x b q in_b in part.by_node (pa.0 ∙ sym qb.0) (omega (arith, pa.1, qb.1)))
    (numbers_rise true 0 x.nodes))
    (rises_flat_map Precedes (λ a b. a < b) (device_parts x) (devices_of x) (device_rises x)
    (λ a b p q lt in_a in_b. let pa = device_place x a p in_a in let qb = device_place x b q in_b in part.by_node (pa.0 ∙ sym qb.0) (omega (arith, pa.1, qb.1)))
    (numbers_rise false 0 x.nodes))
    (λ p q in_hosts in_devices.
    let from = among_flat_map (host_parts x) (hosts_of x) p in_hosts in
    let to = among_flat_map (device_parts x) (devices_of x) q in_devices in
    let left = host_place x from.item p from.found in
    let right = device_place x to.item q to.found in
    part.by_side (omega (arith, left.0, right.0)))

-- no two parts stand before each other
once : (p q : Part) → Precedes p q → Precedes q p → ⊥
once p q (part.by_side a) (part.by_side b) = absurd (omega arith)
once p q (part.by_side a) (part.by_node s b) = absurd (omega arith)
once p q (part.by_side a) (part.by_step s n b) = absurd (omega arith)
once p q (part.by_node s a) (part.by_side b) = absurd (omega arith)
once p q (part.by_node s a) (part.by_node r b) = absurd (omega arith)
once p q (part.by_node s a) (part.by_step r n b) = absurd (omega arith)
once p q (part.by_step s n a) (part.by_side b) = absurd (omega arith)
once p q (part.by_step s n a) (part.by_node r b) = absurd (omega arith)
once p q (part.by_step s n a) (part.by_step r m b) = absurd (omega arith)

-- ---- the laws

pub parts_listed : (x : XbarDesc) → IsParts x (parts_of x)
parts_listed x = record { members = λ p. (in_parts x p, parts_have x p); in_order = parts_rise x }

pub parts_one : (x : XbarDesc) (parts : List Part) → IsParts x parts → parts ≡ parts_of x
parts_one x parts is =
    one_rising Precedes once parts (parts_of x) is.in_order (parts_rise x)
    (λ p among. parts_have x p ((is.members p).0 among)) (λ p among. (is.members p).1 (in_parts x p among))
