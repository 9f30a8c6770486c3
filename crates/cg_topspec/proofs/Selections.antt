-- A clock as the laws of steps take it exists.
use Rattle.std.proofs.Common.{Bool, List, arith, cond, drop, false, inl, inr, length, refl, subst, true, ℕ, ◌%◌, ◌<◌, ◌^◌, ◌∷◌, ◌≡◌, ◌≤◌, ◌⊎◌}
use Rattle.std.proofs.Math.Nat.{mod-lt}
use Rattle.std.proofs.Math.Pow.{pow_mono}
use Rattle.std.proofs.lemmas.List.{length-drop, length-take-le}
use Rattle.std.proofs.lemmas.Nat.{pow_pos}
use Rattle.cg_desc.specs.BlockStep.{Access}
use Rattle.cg_desc.specs.Merged.{IsMerged}
use Rattle.cg_desc.specs.declared.block.LaidFace.{LaidFace}
use Rattle.cg_regspec.proofs.Carried.{each_access_is_carried}
use Rattle.cg_regspec.specs.Meaning.{Carries, RegisterMeans}
use Rattle.cg_regspec.specs.Runs.{IsAccess, access_nets}
use Rattle.cg_svspec.specs.Bits.{Bits}
use Rattle.cg_svspec.specs.Links.{number}
use Rattle.cg_svspec.specs.Names.{Among}
use Rattle.cg_svspec.specs.Tree.{Module}
use Rattle.cg_svspec.specs.Value.{HasWidths, Valuation, Values}
use Rattle.cg_svspec.specs.Walk.{End, Walks}
use Rattle.cg_topspec.proofs.Built.{Built, top_module}
use Rattle.cg_topspec.proofs.FoundInterfaces.{interface_acts, same_interface}
use Rattle.cg_topspec.proofs.InterfaceChoice.{interface_or_not}
use Rattle.cg_topspec.proofs.Law.{requests_come}
use Rattle.cg_topspec.proofs.Lows.{number_take}
use Rattle.cg_topspec.specs.Modules.{HasModules}
use Rattle.cg_topspec.specs.Select.{InterfaceAt, access_at, access_of, ends_at, no_access}
use Rattle.cg_topspec.specs.Selection.{HaveWidths, IsSelection, SelectionExists}
use Rattle.cg_topspec.specs.Ways.{Comes, to_interface, to_nothing, to_port}
use Rattle.cg_svspec.specs.Walk as walk

-- ---- what a clock of an interface is

-- the request's access is one that software can make
request_is_access : (end : End) (i j width : ℕ) (request : Bits) → width ≤ 32 → length request ≡ 70 → IsAccess (access_at end i j width request)
request_is_access end i j width request few sized = by (ends_at end i j) where
  by : (b : Bool) → IsAccess (cond b (access_of width request) no_access)
  by true =
      let some : 0 < 2 ^ width = pow_pos width in
      let less : number (drop 32 request) % 2 ^ width < 2 ^ width = mod-lt (number (drop 32 request)) some in
      let most : 2 ^ width ≤ 2 ^ 32 = pow_mono few in
      record {
        small = omega (arith, number_take width (drop 32 request), less, most);
        data_wide = length-take-le 32 request (omega (arith, sized));
        strobes_wide = length-take-le 4 (drop 64 request) (omega (arith, length-drop 64 request, sized));
      }
  by false = record { small = omega arith; data_wide = refl; strobes_wide = refl }

-- the inputs of one interface, the values of its nets, and its states after the clock
record Clocking : Type 0 where
  inputs : Values
  v : Values
  next : Values

-- they are a clock of these registers from these states, with this access and what hardware brings
record IsClocking (registers : Module) (a : Access) (brought states : Values) (c : Clocking) : Type 0 where
  widths : HasWidths registers c.inputs states
  carries : Carries c.inputs a
  steps : Valuation registers c.inputs states c.v c.next
  others : (n : List ℕ) → (Among n access_nets → ⊥) → c.inputs n ≡ brought n

clocking : (name : List ℕ) (registers : Module) (face : LaidFace) → RegisterMeans name registers face → (a : Access) → IsAccess a → (brought states : Values)
    → HasWidths registers brought states
    → (c : Clocking) × IsClocking registers a brought states c
clocking name registers interface means a is brought states widths =
    let carried = each_access_is_carried name registers interface means a is brought widths.inputs_fit in
    let fit : HasWidths registers carried.inputs states = record { inputs_fit = carried.is_clock.fits; states_fit = widths.states_fit } in
    let valuation = means.has_valuation carried.inputs states fit in (
      record { inputs = carried.inputs; v = valuation.0; next = valuation.1 },
      record { widths = fit; carries = carried.is_clock.carries; steps = valuation.2; others = carried.others },
    )

-- ---- a clock of all interfaces

module _ (top : Built) (merged : IsMerged top.merged) (ms : List Module) (has : HasModules top.merged (top_module top ∷ ms)) (end : End) (request : Bits)
    (sized : length request ≡ 70)
    (brought states : ℕ → ℕ → Values) (widths : HaveWidths (top_module top) ms brought states) where
  clock_of : (i j : ℕ) (f : InterfaceAt (top_module top) ms i j)
      → (c : Clocking) × IsClocking f.is_face.registers (access_at end i j f.is_face.width request) (brought i j) (states i j) c
  clock_of i j f =
      let acts = interface_acts top merged ms has i j f in
      clocking acts.module_name f.is_face.registers acts.face acts.means (access_at end i j f.is_face.width request)
      (request_is_access end i j f.is_face.width request f.is_face.few sized)
      (brought i j) (states i j) (widths i j f)

  -- where there is no interface nothing is asked
  chosen : (i j : ℕ) → InterfaceAt (top_module top) ms i j ⊎ (InterfaceAt (top_module top) ms i j → ⊥) → Clocking
  chosen i j (inl f) = (clock_of i j f).0
  chosen i j (inr missing_there) = record { inputs = brought i j; v = states i j; next = states i j }

  at_connection : ℕ → ℕ → Clocking
  at_connection i j = chosen i j (interface_or_not top merged ms has i j)

  is_clocking : (i j : ℕ) (f : InterfaceAt (top_module top) ms i j)
      → IsClocking f.is_face.registers (access_at end i j f.is_face.width request) (brought i j) (states i j) (at_connection i j)
  unfolding at_connection chosen
  is_clocking i j f = by (interface_or_not top merged ms has i j) where
    by : (d : InterfaceAt (top_module top) ms i j ⊎ (InterfaceAt (top_module top) ms i j → ⊥))
        → IsClocking f.is_face.registers (access_at end i j f.is_face.width request) (brought i j) (states i j) (chosen i j d)
    by (inl g) =
        let same = same_interface (top_module top) ms i j g f in
        subst (λ w. IsClocking f.is_face.registers (access_at end i j w request) (brought i j) (states i j) (clock_of i j g).0) same.width
        (subst (λ r. IsClocking r (access_at end i j g.is_face.width request) (brought i j) (states i j) (clock_of i j g).0) same.registers (clock_of i j g).1)
    by (inr missing_there) = absurd (missing_there f)

  pub selection_of : (host : List ℕ) → Walks (top_module top ∷ ms) host request end → IsSelection (top_module top) ms host request brought states
  selection_of host w = record {
    end = end;
    inputs = λ i j. (at_connection i j).inputs;
    v = λ i j. (at_connection i j).v;
    next = λ i j. (at_connection i j).next;
    selects = record {
      walks = w;
      widths = λ i j f. (is_clocking i j f).widths;
      carries = λ i j f. (is_clocking i j f).carries;
      steps = λ i j f. (is_clocking i j f).steps;
    };
    others = λ i j f. (is_clocking i j f).others;
  }

pub a_selection_exists : SelectionExists
a_selection_exists m numbers ties pins ms fits none_broken no_name has x h at request sized brought states widths =
    by (requests_come m numbers ties pins ms fits none_broken no_name has x h at request sized) where
      top : Built
      top = record { merged = m; numbers = numbers; ties = ties; pins = pins }

      by : Comes m numbers ties pins ms x h at.host.name request → IsSelection (top_module top) ms at.host.name request brought states
      by (to_nothing place goes_so) = selection_of top fits.merged ms has walk.error request sized brought states widths at.host.name goes_so
      by (to_port z d e place goes_so) = selection_of top fits.merged ms has (walk.outside _) request sized brought states widths at.host.name goes_so
      by (to_interface i f j z d interface target meets is place goes_so) =
          selection_of top fits.merged ms has (walk.face _ j) request sized brought states widths at.host.name goes_so
