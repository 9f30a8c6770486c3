-- Good crossbars, and where requests end in their modules.
use Rattle.std.proofs.Common.{◌≡◌, ℕ, ◌^◌, ◌≤◌, ◌<◌, eqb, Bool, true, false, ◌||◌, List, [], ◌∷◌, length, Option, Some, None}
use Rattle.std.specs.Prelude.{slice_get}
use Rattle.cg_svspec.specs.Bits.{Bits}
use Rattle.cg_svspec.specs.Characters.{is_name_character, Each}
use Rattle.cg_svspec.specs.Names.{Among}
use Rattle.cg_svspec.specs.Printable.{AllOf, IsSomeOf}
use Rattle.cg_svspec.specs.Register.{output_port}
use Rattle.cg_svspec.specs.Tree.{Module}
use Rattle.cg_svspec.specs.Walk.{outside, error, Walks}
use Rattle.cg_desc.specs.declared.crossbar.NodeDesc.{NodeDesc}
use Rattle.cg_busspec.specs.Crossbar.{Crossbar, device_ranges, node, hosts, devices, reach, feeders, some_holds}
use Rattle.cg_busspec.specs.CrossbarModule.{h_link, d_link}
use Rattle.cg_busspec.specs.Passage.{Passes}
use Rattle.cg_busspec.specs.Ranges.{IsRange, address_of}

-- no number stands twice
abbrev pub Once : List ℕ → Type 0
Once [] = Unit {0}
Once (i ∷ is) = (Among i is → ⊥) × Once is

-- what node names have: letters, digits, underscores and dots
abbrev pub is_node_character : ℕ → Bool
is_node_character c = is_name_character c || eqb c 46

abbrev pub IsNode : NodeDesc → Type 0
IsNode n = Each is_node_character n.name × Each is_name_character n.clock

-- What a crossbar needs for its module to be one: characters of names, connections from each host to some devices and to none twice, some
-- host and some ranges of good shape at each device, and no address that two devices of a host have together.
pub record IsCrossbar (x : Crossbar) : Type 0 where
  pub name : Each is_name_character x.desc.name
  pub clock : Each is_name_character x.desc.clock
  pub nodes : AllOf IsNode x.desc.nodes
  pub few : length x.desc.nodes ≤ 64
  pub reaches : (h d : ℕ) → Among h (hosts x.desc) → Among d (reach x.desc h) → Among d (devices x.desc)
  pub once : (h : ℕ) → Among h (hosts x.desc) → Once (reach x.desc h)
  pub some_device : (h : ℕ) → Among h (hosts x.desc) → IsSomeOf (reach x.desc h)
  pub some_host : (d : ℕ) → Among d (devices x.desc) → IsSomeOf (feeders x.desc d)
  pub ranges : (d : ℕ) → Among d (devices x.desc) → AllOf IsRange (device_ranges x d)
  pub some_range : (d : ℕ) → Among d (devices x.desc) → IsSomeOf (device_ranges x d)
  pub few_ranges : (d : ℕ) → Among d (devices x.desc) → length (device_ranges x d) < 2 ^ 32
  pub apart : (h d e a : ℕ) → Among h (hosts x.desc) → Among d (reach x.desc h) → Among e (reach x.desc h) → some_holds a (device_ranges x d) ≡ true → some_holds a (device_ranges x e) ≡ true → d ≡ e

-- Every request of a host ends at the port of the device that the host connects to and one of whose ranges has the address, and in an
-- error where there is none.
pub record Ends (m : Module) (x : Crossbar) : Type 0 where
  pub reaches : (h d : ℕ) (request : Bits) → Among h (hosts x.desc) → Among d (reach x.desc h) → length request ≡ 70 → some_holds (address_of request) (device_ranges x d) ≡ true
      → (k : ℕ) × (slice_get m.ports k ≡ Some (output_port 70 (d_link x.desc d).request)) × Walks (m ∷ []) (node x.desc h).name request (outside k)
  pub reaches_none : (h : ℕ) (request : Bits) → Among h (hosts x.desc) → length request ≡ 70
      → ((d : ℕ) → Among d (reach x.desc h) → some_holds (address_of request) (device_ranges x d) ≡ false) → Walks (m ∷ []) (node x.desc h).name request error

-- the same inside the module
pub record Leads (m : Module) (x : Crossbar) : Type 0 where
  pub leads : (h d : ℕ) (request : Bits) → Among h (hosts x.desc) → Among d (reach x.desc h) → length request ≡ 70 → some_holds (address_of request) (device_ranges x d) ≡ true
      → Passes m request [] (h_link x.desc h) (Some (d_link x.desc d))
  pub stops : (h : ℕ) (request : Bits) → Among h (hosts x.desc) → length request ≡ 70 → ((d : ℕ) → Among d (reach x.desc h) → some_holds (address_of request) (device_ranges x d) ≡ false)
      → Passes m request [] (h_link x.desc h) None
