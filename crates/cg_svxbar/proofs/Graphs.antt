-- The parts and the clocks of a graph are those of the crossbar's module.
use Rattle.std.proofs.Common.{◌≡◌, ℕ, suc, eqb, leb, Bool, true, false, not, cond, ◌||◌, inl, inr, List, [], ◌∷◌, ◌++◌, length, map, refl, ap, sym, ◌∙◌}
use Rattle.std.specs.Prelude.{flat_map, filter, ◌==◌}
use Rattle.std.specs.List.{list_any}
use Rattle.std.specs.Option.{option_map_or}
use Rattle.std.specs.Str.{bytes_eq}
use Rattle.cg_svspec.specs.Names.{Among, is_among}
use Rattle.cg_desc.specs.Crossbar.{NodeIs}
use Rattle.cg_desc.specs.declared.crossbar.NodeDesc.{NodeDesc}
use Rattle.cg_desc.specs.declared.crossbar.XbarDesc.{XbarDesc}
use Rattle.cg_busspec.specs.Crossbar as bus
use Rattle.cg_busspec.specs.CrossbarModule as written
use Rattle.cg_busspec.proofs.Described.{host_is, device_is, node_is}
use Rattle.cg_nodes.specs.Listed.{numbers_of, hosts_of, devices_of, connects, feeders_of, has_fifo, has_join, host_parts, device_parts, parts_of, new_names, clocks_of}
use Rattle.cg_nodes.specs.declared.parts.Part.{Part}
use Rattle.cg_nodes.specs.declared.parts.Part.TheVariants.{HostFifo, Split, Join, DeviceFifo}
use Rattle.cg_svxbar.specs.Viewed.{part_entry}
use Rattle.cg_svxbar.proofs.Bundles.{map_join}

-- ---- nodes by their numbers

numbers_are : (b : Bool) (i : ℕ) (ns : List NodeDesc) → numbers_of b i ns ≡ bus.numbers_of b i ns
unfolding numbers_of
numbers_are b i [] = refl
numbers_are b i (n ∷ ns) = ap (λ z. cond (cond b n.host (not n.host)) (i ∷ z) z) (numbers_are b (suc i) ns)

hosts_are : (x : XbarDesc) → hosts_of x ≡ bus.hosts x
unfolding hosts_of bus.hosts
hosts_are x = numbers_are true 0 x.nodes

devices_are : (x : XbarDesc) → devices_of x ≡ bus.devices x
unfolding devices_of bus.devices
devices_are x = numbers_are false 0 x.nodes

-- ---- clocks

new_are : (seen : List (List ℕ)) (ns : List NodeDesc) → new_names seen (map (λ n. n.clock) ns) ≡ written.new_clocks seen ns
unfolding new_names
new_are seen [] = refl
new_are seen (n ∷ ns) = by (is_among seen n.clock) (new_are seen ns) (new_are (n.clock ∷ seen) ns) where
  by : (b : Bool) → new_names seen (map (λ n. n.clock) ns) ≡ written.new_clocks seen ns → new_names (n.clock ∷ seen) (map (λ n. n.clock) ns) ≡ written.new_clocks (n.clock ∷ seen) ns
      → cond b (new_names seen (map (λ n. n.clock) ns)) (n.clock ∷ new_names (n.clock ∷ seen) (map (λ n. n.clock) ns)) ≡ cond b (written.new_clocks seen ns) (n.clock ∷ written.new_clocks (n.clock ∷ seen) ns)
  by true old new = old
  by false old new = ap (λ z. n.clock ∷ z) new

clocks_are : (x : XbarDesc) → clocks_of x ≡ written.clocks x
unfolding clocks_of new_names written.clocks
clocks_are x = ap (λ z. x.clock ∷ z) (new_are (x.clock ∷ []) x.nodes)

-- the ports of the clocks
pub clock_ports_are : (x : XbarDesc) (clocks : List (List ℕ)) → clocks ≡ clocks_of x → map written.clock_port clocks ≡ map written.clock_port (written.clocks x)
clock_ports_are x clocks e = ap (map written.clock_port) (e ∙ clocks_are x)

-- ---- parts at one node

fifo_is : (x : XbarDesc) (i : ℕ) (n : NodeDesc) → NodeIs x i n → has_fifo x i ≡ bus.has_fifo x i
unfolding has_fifo bus.has_fifo
fifo_is x i n e = ap (λ z. option_map_or (λ node. not (bytes_eq node.clock x.clock)) z false) e ∙ ap (λ z. not (bytes_eq z.clock x.clock)) (sym (node_is x i n e))

any_is : (js : List ℕ) (d : ℕ) → list_any (λ e. e == d) js ≡ bus.is_in js d
any_is [] d = refl
any_is (j ∷ js) d = ap (λ z. eqb j d || z) (any_is js d)

connects_is : (x : XbarDesc) (h d : ℕ) (n : NodeDesc) → NodeIs x h n → connects x d h ≡ bus.is_in (bus.reach x h) d
unfolding connects bus.reach
connects_is x h d n e = ap (λ z. option_map_or (λ node. list_any (λ e. e == d) node.to) z false) e ∙ any_is n.to d ∙ ap (λ z. bus.is_in z.to d) (sym (node_is x h n e))

filter_same : (p q : ℕ → Bool) (is : List ℕ) → ((i : ℕ) → Among i is → p i ≡ q i) → filter p is ≡ filter q is
filter_same p q [] same = refl
filter_same p q (i ∷ is) same = rw (same i (inl refl), filter_same p q is (λ j a. same j (inr a))) refl

feeders_are : (x : XbarDesc) (d : ℕ) → feeders_of x d ≡ bus.feeders x d
unfolding feeders_of bus.feeders
feeders_are x d =
    ap (filter (connects x d)) (hosts_are x)
    ∙ filter_same (connects x d) (λ h. bus.is_in (bus.reach x h) d) (bus.hosts x) (λ h a. let is = host_is x h a in connects_is x h d is.0 is.1)

join_is : (x : XbarDesc) (d : ℕ) → has_join x d ≡ bus.is_joined x d
unfolding has_join bus.is_joined
join_is x d = ap (λ z. leb 2 (length z)) (feeders_are x d)

-- ---- all parts

flat_same : {A : Type 0} (f g : ℕ → List A) (is : List ℕ) → ((i : ℕ) → Among i is → f i ≡ g i) → flat_map f is ≡ flat_map g is
flat_same f g [] same = refl
flat_same f g (i ∷ is) same = rw (same i (inl refl), flat_same f g is (λ j a. same j (inr a))) refl

map_flat : {A B : Type 0} (f : A → B) (g : ℕ → List A) (is : List ℕ) → map f (flat_map g is) ≡ flat_map (λ i. map f (g i)) is
map_flat f g [] = refl
map_flat f g (i ∷ is) = map_join f (g i) (flat_map g is) ∙ ap (λ z. map f (g i) ++ z) (map_flat f g is)

host_parts_are : (x : XbarDesc) (h : ℕ) → Among h (bus.hosts x) → map (part_entry x) (host_parts x h) ≡ written.host_parts x h
unfolding host_parts
host_parts_are x h a = let is = host_is x h a in rw (fifo_is x h is.0 is.1) (by (bus.has_fifo x h)) where
  by : (b : Bool) → map (part_entry x) (cond b (HostFifo h ∷ []) [] ++ (Split h ∷ [])) ≡ written.entries_if b (written.host_fifo_entry x h ∷ []) ++ (written.host_split_entry x h ∷ [])
  by true = refl
  by false = refl

device_parts_are : (x : XbarDesc) (d : ℕ) → Among d (bus.devices x) → map (part_entry x) (device_parts x d) ≡ written.device_parts x d
unfolding device_parts
device_parts_are x d a = let is = device_is x d a in rw (fifo_is x d is.0 is.1, join_is x d) (by (bus.is_joined x d) (bus.has_fifo x d)) where
  by : (b c : Bool) → map (part_entry x) (cond b (Join d ∷ []) [] ++ cond c (DeviceFifo d ∷ []) []) ≡ written.entries_if b (written.device_join_entry x d ∷ []) ++ written.entries_if c (written.device_fifo_entry x d ∷ [])
  by true true = refl
  by true false = refl
  by false true = refl
  by false false = refl

-- the entries of the parts
pub parts_are : (x : XbarDesc) (parts : List Part) → parts ≡ parts_of x → map (part_entry x) parts ≡ written.crossbar_parts x
unfolding parts_of
parts_are x parts e =
    ap (map (part_entry x)) e ∙ map_join (part_entry x) (flat_map (host_parts x) (hosts_of x)) (flat_map (device_parts x) (devices_of x))
    ∙ ap (λ z. z ++ map (part_entry x) (flat_map (device_parts x) (devices_of x)))
    (map_flat (part_entry x) (host_parts x) (hosts_of x) ∙ ap (flat_map (λ h. map (part_entry x) (host_parts x h))) (hosts_are x) ∙ flat_same _ (written.host_parts x) (bus.hosts x) (host_parts_are x))
    ∙ ap (λ z. flat_map (written.host_parts x) (bus.hosts x) ++ z)
    (map_flat (part_entry x) (device_parts x) (devices_of x) ∙ ap (flat_map (λ d. map (part_entry x) (device_parts x d))) (devices_are x) ∙ flat_same _ (written.device_parts x) (bus.devices x) (device_parts_are x))
