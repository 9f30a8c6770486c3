-- The parts and the clocks of a crossbar as whole lists.
use Rattle.std.specs.Prelude.{ℕ, suc, Bool, true, false, not, cond, nat_le, List, [], ◌∷◌, ◌++◌, length, filter, flat_map, slice_get, ◌==◌}
use Rattle.std.specs.Option.{option_map_or}
use Rattle.std.specs.Str.{bytes_eq}
use Rattle.std.specs.List.{list_any}
use Rattle.cg_svspec.specs.Names.{is_among}
use Rattle.cg_desc.specs.declared.crossbar.NodeDesc.{NodeDesc}
use Rattle.cg_desc.specs.declared.crossbar.XbarDesc.{XbarDesc}
use Rattle.cg_nodes.specs.Clocks.{clock_uses}
use Rattle.cg_nodes.specs.declared.parts.Part.{Part}
use Rattle.cg_nodes.specs.declared.parts.Part.TheVariants.{HostFifo, Split, Join, DeviceFifo}

-- ---- nodes by their numbers

-- the numbers of the hosts, or of the devices, among nodes of which the first has the number i
unfoldable pub numbers_of : Bool → ℕ → List NodeDesc → List ℕ
numbers_of host i [] = []
numbers_of host i (node ∷ nodes) = cond (cond host node.host (not node.host)) (i ∷ numbers_of host (suc i) nodes) (numbers_of host (suc i) nodes)

unfoldable pub hosts_of : XbarDesc → List ℕ
hosts_of x = numbers_of true 0 x.nodes

unfoldable pub devices_of : XbarDesc → List ℕ
devices_of x = numbers_of false 0 x.nodes

-- node h has device d among those that it connects to
unfoldable pub connects : XbarDesc → ℕ → ℕ → Bool
connects x d h = option_map_or (λ node. list_any (λ e. e == d) node.to) (slice_get x.nodes h) false

-- the hosts that connect to device d, in node order
unfoldable pub feeders_of : XbarDesc → ℕ → List ℕ
feeders_of x d = filter (connects x d) (hosts_of x)

-- ---- parts

-- the clock of node i is not the crossbar's
unfoldable pub has_fifo : XbarDesc → ℕ → Bool
has_fifo x i = option_map_or (λ node. not (bytes_eq node.clock x.clock)) (slice_get x.nodes i) false

-- more than one host connects to device d
unfoldable pub has_join : XbarDesc → ℕ → Bool
has_join x d = nat_le 2 (length (feeders_of x d))

unfoldable pub host_parts : XbarDesc → ℕ → List Part
host_parts x h = cond (has_fifo x h) (HostFifo h ∷ []) [] ++ (Split h ∷ [])

unfoldable pub device_parts : XbarDesc → ℕ → List Part
device_parts x d = cond (has_join x d) (Join d ∷ []) [] ++ cond (has_fifo x d) (DeviceFifo d ∷ []) []

-- the parts of the hosts, then those of the devices, each in node order
unfoldable pub parts_of : XbarDesc → List Part
parts_of x = flat_map (host_parts x) (hosts_of x) ++ flat_map (device_parts x) (devices_of x)

-- ---- clocks

-- those of the names that stand neither in `before` nor earlier in the list
unfoldable pub new_names : List (List ℕ) → List (List ℕ) → List (List ℕ)
new_names before [] = []
new_names before (n ∷ ns) = cond (is_among before n) (new_names before ns) (n ∷ new_names (n ∷ before) ns)

-- each clock where it is first used
unfoldable pub clocks_of : XbarDesc → List (List ℕ)
clocks_of x = new_names [] (clock_uses x)
