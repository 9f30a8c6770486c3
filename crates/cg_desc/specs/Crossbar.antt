-- A crossbar's description: its nodes by their numbers, who connects to whom, and when it is valid (OpenTitan Crossbar Tool).
use Rattle.std.specs.Prelude.{◌≡◌, ◌⊎◌, ℕ, ◌^◌, ◌<◌, ◌≤◌, true, false, List, [], ◌∷◌, ◌++◌, length, slice_get, Some}
use Rattle.cg_svspec.specs.Names.{Among}
pub use Rattle.cg_desc.specs.Valid.{IsShortName}
use Rattle.cg_desc.specs.declared.crossbar.Range.{Range}
use Rattle.cg_desc.specs.declared.crossbar.NodeDesc.{NodeDesc}
use Rattle.cg_desc.specs.declared.crossbar.XbarDesc.{XbarDesc}

-- ---- nodes by their numbers

-- node i is this one
abbrev pub NodeIs : XbarDesc → ℕ → NodeDesc → Type 0
NodeIs x i node = slice_get x.nodes i ≡ Some node

-- node i is a host
abbrev pub IsHost : XbarDesc → ℕ → Type 0
IsHost x i = (node : NodeDesc) × NodeIs x i node × (node.host ≡ true)

-- node i is a device
abbrev pub IsDevice : XbarDesc → ℕ → Type 0
IsDevice x i = (node : NodeDesc) × NodeIs x i node × (node.host ≡ false)

-- host h connects to device d
abbrev pub Connects : XbarDesc → ℕ → ℕ → Type 0
Connects x h d = (node : NodeDesc) × NodeIs x h node × (node.host ≡ true) × Among d node.to

-- ---- valid descriptions

-- such a name, or two joined by a dot
abbrev pub IsNodeName : List ℕ → Type 0
IsNodeName name = IsShortName name ⊎ ((a : List ℕ) × (b : List ℕ) × IsShortName a × IsShortName b × (name ≡ a ++ (46 ∷ b)))

-- the numbers are within their machine words
abbrev pub IsValidRange : Range → Type 0
IsValidRange r = (r.base < 2 ^ 32) × (r.size ≤ 2 ^ 32)

pub record IsValidNode (node : NodeDesc) : Type 0 where
  pub name : IsNodeName node.name
  pub clock : IsShortName node.clock
  pub few_ranges : length node.ranges ≤ 16
  pub ranges : (r : Range) → Among r node.ranges → IsValidRange r

-- What a crossbar that was read has: good names, nodes of different names, and connections from each host to some devices, to none
-- twice, and to each device from some host.
pub record IsValidCrossbar (x : XbarDesc) : Type 0 where
  pub name : IsShortName x.name
  pub clock : IsShortName x.clock
  pub few_nodes : length x.nodes ≤ 64
  pub nodes : (node : NodeDesc) → Among node x.nodes → IsValidNode node
  pub names_differ : (i j : ℕ) (a b : NodeDesc) → NodeIs x i a → NodeIs x j b → a.name ≡ b.name → i ≡ j
  pub devices_only : (h d : ℕ) → Connects x h d → IsDevice x d
  pub once : (h i j d : ℕ) (node : NodeDesc) → NodeIs x h node → slice_get node.to i ≡ Some d → slice_get node.to j ≡ Some d → i ≡ j
  pub only_hosts : (i : ℕ) (node : NodeDesc) → NodeIs x i node → node.host ≡ false → node.to ≡ []
  pub some_device : (h : ℕ) → IsHost x h → (d : ℕ) × Connects x h d
  pub some_host : (d : ℕ) → IsDevice x d → (h : ℕ) × Connects x h d
