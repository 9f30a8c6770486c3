-- The way of a host's request over the top module and its crossbars.
use Rattle.std.proofs.Common.{true, List, [], ap, arith, codes, inl, inr, length, refl, subst, ℕ, ◌++◌, ◌∷◌, ◌≡◌, ◌⊎◌}
use Rattle.cg_busspec.specs.Ranges.{address_of}
use Rattle.cg_desc.specs.Merged.{NodeAt}
use Rattle.cg_desc.specs.Ranges.{SomeHolds}
use Rattle.cg_desc.specs.Reach.{HasRanges, IsPlain, NoCircle, Reaches}
use Rattle.cg_desc.specs.declared.crossbar.NodeDesc.{NodeDesc}
use Rattle.cg_desc.specs.declared.crossbar.Range.{Range}
use Rattle.cg_space.specs.Inner.Sound.{IsSound}
use Rattle.cg_svspec.specs.Bits.{Bits}
use Rattle.cg_svspec.specs.Links.{host_link}
use Rattle.cg_svspec.specs.Tree.{Module}
use Rattle.cg_svspec.specs.Walk.{Walks, start, on, position, walks, within}
use Rattle.cg_topspec.proofs.Built.{Built, HasCrossbars, HasRegisters, IsJoined, NamesApart, crossbar_connections, top_module}
use Rattle.cg_topspec.proofs.Nesting.{IsFresh, Links}
use Rattle.cg_topspec.proofs.Nets.{device_has_link, one_request}
use Rattle.cg_topspec.proofs.Relations.{host_there, node_is}
use Rattle.cg_topspec.proofs.TopFaces.{ends_there, target_by}
use Rattle.cg_topspec.proofs.TopLinks.{joins}
use Rattle.cg_topspec.proofs.TopStart.{starts}
use Rattle.cg_topspec.proofs.TopNets.{crossbar_number, crossbar_there, goes_over}
use Rattle.cg_topspec.proofs.Ways.{Arrives, Stops, way_over}
use Rattle.cg_topspec.proofs.Whole.{names_of_top}
use Rattle.cg_topspec.specs.Nets.{own_link}
use Rattle.cg_topspec.specs.Top.{crossbar_of, end_of, is_host, node_id, node_of}
use Rattle.cg_topspec.specs.TopModule.{crossbar_module_name}
use Rattle.cg_svspec.specs.Walk as walk

-- the top module's links, as the way over nested crossbars needs them
unfoldable pub links_of_top : (top : Built) → IsJoined top.merged → NamesApart top → (ms : List Module) → HasCrossbars top ms → HasRegisters top ms → Links top.merged (top_module top) ms
links_of_top top merged names ms there registers = record {
  entry = crossbar_number top;
  entries_differ = λ x y e. omega (arith, e);
  module_of = there.module_of;
  connections = crossbar_connections top;
  at_entry = λ x less. record {
    part = crossbar_module_name top.merged x;
    parameters = [];
    name = codes "u_xbar_" ++ (crossbar_of top.merged x).name;
    entry_is = crossbar_there top x less;
    module_is = there.named x less;
  };
  is_crossbar = there.is;
  outer = own_link top.merged;
  outers_differ = λ d e is_d is_e same. one_request top (names_of_top top names) d e is_d.0 is_e.0 (device_has_link top d is_d) (device_has_link top e is_e) same;
  goes_over = goes_over top names;
  joins = λ d k is joined request way. joins top merged names ms there d is k joined request way;
  target = λ d. target_by top ms d (end_of top.merged d);
  arrives = λ d is plain request way. ends_there top merged names ms there d is registers plain request way;
}

-- nothing was met yet
fresh_start : (top : Built) (merged : IsJoined top.merged) (names : NamesApart top) (ms : List Module) (there : HasCrossbars top ms) (registers : HasRegisters top ms) (x : ℕ)
    → IsFresh top.merged (top_module top) ms (links_of_top top merged names ms there registers) x []
fresh_start top merged names ms there registers x = record { inside_none = λ y leads. refl; between_none = λ d is leads. refl }

module _ (top : Built) (merged : IsJoined top.merged) (free : NoCircle top.merged) (sound : IsSound top.merged) (names : NamesApart top) (ms : List Module) (there : HasCrossbars top ms) (registers : HasRegisters top ms)
    (request : Bits) (sized : length request ≡ 70) where
  -- a request of a host walks to a device that it reaches and that has the address
  pub record WalksTo (x h : ℕ) (name : List ℕ) : Type 0 where
    pub z : ℕ
    pub device : ℕ
    pub reaches : Reaches top.merged x h z device
    pub ranges : List Range
    pub has : HasRanges top.merged z device ranges
    pub holds : SomeHolds ranges (address_of request)
    pub plain : IsPlain (end_of top.merged (node_id z device))
    pub walk_is : Walks (top_module top ∷ ms) name request (target_by top ms (node_id z device) (end_of top.merged (node_id z device)))

  -- or to nothing, where none has
  pub record WalksNowhere (x h : ℕ) (name : List ℕ) : Type 0 where
    pub none : (z e : ℕ) (ls : List Range) → Reaches top.merged x h z e → HasRanges top.merged z e ls → SomeHolds ls (address_of request) → ⊥
    pub walk_is : Walks (top_module top ∷ ms) name request walk.error

  pub walks_over : (x h : ℕ) (host : NodeDesc) → NodeAt top.merged x h host → host.host ≡ true → IsPlain (end_of top.merged (node_id x h)) → WalksTo x h host.name ⊎ WalksNowhere x h host.name
  unfolding links_of_top
  walks_over x h host at is_host plain = by (way_over top.merged merged free sound (top_module top) ms links request sized x h host at is_host) where
    links : Links top.merged (top_module top) ms
    links = links_of_top top merged names ms there registers

    name : (node_of top.merged (node_id x h)).name ≡ host.name
    name = ap (λ (n : NodeDesc). n.name) (node_is top.merged x h host at)

    start_is : start (top_module top ∷ ms) host.name ≡ on (position (within (crossbar_number top x)) (host_link host.name))
    start_is = subst (λ n. start (top_module top ∷ ms) n ≡ on (position (within (crossbar_number top x)) (host_link n))) name
        (starts top merged names ms there (node_id x h) (host_there top.merged x h host at is_host) plain)

    by : Arrives top.merged merged free sound (top_module top) ms links request sized x h host.name ⊎ Stops top.merged merged free sound (top_module top) ms links request sized x h host.name
        → WalksTo x h host.name ⊎ WalksNowhere x h host.name
    by (inl a) = inl (record {
      z = a.z;
      device = a.device;
      reaches = a.reaches;
      ranges = a.ranges;
      has = a.has;
      holds = a.holds;
      plain = a.plain;
      walk_is = walks start_is (a.way_is [] (fresh_start top merged names ms there registers x));
    })
    by (inr s) = inr (record { none = s.none; walk_is = walks start_is (s.way_is [] (fresh_start top merged names ms there registers x)) })
