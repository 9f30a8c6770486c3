-- There are inputs and states of their widths at each device interface.
use Rattle.std.proofs.Common.{Bool, List, [], ap, cond, false, inl, inr, length, refl, subst, sym, true, ℕ, ◌∙◌, ◌∷◌, ◌≡◌, ◌⊎◌}
use Rattle.std.specs.Str.{bytes_eq}
use Rattle.cg_desc.specs.Merged.{IsMerged}
use Rattle.cg_space.proofs.Tabling.{all_of}
use Rattle.cg_svspec.proofs.BitLists.{bits-zero, length-bits}
use Rattle.cg_svspec.proofs.NamesLemmas.{name_is_itself, same_name}
use Rattle.cg_svspec.specs.Bits.{zeros}
use Rattle.cg_svspec.specs.Names.{Among, Differ, port_names}
use Rattle.cg_svspec.specs.Tree.{Module, Port}
use Rattle.cg_svspec.specs.Value.{HasWidths, InputFits, InputsFit, Values}
use Rattle.cg_topspec.proofs.Built.{Built, top_module}
use Rattle.cg_topspec.proofs.FoundInterfaces.{interface_acts, same_interface}
use Rattle.cg_topspec.proofs.InterfaceChoice.{interface_or_not}
use Rattle.cg_topspec.specs.Modules.{HasModules}
use Rattle.cg_topspec.specs.Select.{InterfaceAt}
use Rattle.cg_topspec.specs.Selection.{HasStates, StatesExist}

-- the width of the first port of this name
port_width : List Port → List ℕ → ℕ
port_width [] n = 0
port_width (p ∷ ps) n = cond (bytes_eq p.name n) p.width (port_width ps n)

port_width_is : (ps : List Port) → Differ (port_names ps) → (p : Port) → Among p ps → port_width ps p.name ≡ p.width
unfolding port_width
port_width_is [] d p a = absurd a
port_width_is (q ∷ ps) d p a = by (bytes_eq q.name p.name) refl (port_width_is ps d.1 p) a where
  name_in : (ps : List Port) → Among p ps → Among p.name (port_names ps)
  name_in [] a = a
  name_in (r ∷ rs) (inl e) = inl (ap (λ (z : Port). z.name) e)
  name_in (r ∷ rs) (inr a) = inr (name_in rs a)

  by : (b : Bool) → bytes_eq q.name p.name ≡ b → (Among p ps → port_width ps p.name ≡ p.width) → Among p (q ∷ ps)
      → cond b q.width (port_width ps p.name) ≡ p.width
  by true e again (inl same) = ap (λ (z : Port). z.width) (sym same)
  by true e again (inr there) = absurd (d.0 (subst (λ k. Among k (port_names ps)) (sym (same_name q.name p.name e)) (name_in ps there)))
  by false e again (inl same) =
      absurd (let itself : bytes_eq q.name p.name ≡ true = subst (λ (z : Port). bytes_eq q.name z.name ≡ true) (sym same) (name_is_itself q.name) in cc)
  by false e again (inr there) = again there

-- each input 0
nothing_brought : List Port → Values
nothing_brought ps n = zeros (port_width ps n)

zeros_long : (w : ℕ) → length (zeros w) ≡ w
zeros_long w = ap length (sym (bits-zero w)) ∙ length-bits w 0

nothing_fits : (m : Module) → Differ (port_names m.ports) → InputsFit m (nothing_brought m.ports)
unfolding nothing_brought
nothing_fits m differ =
    all_of (InputFits (λ n. zeros (port_width m.ports n))) m.ports
    (λ p a. by p p.input (zeros_long (port_width m.ports p.name) ∙ port_width_is m.ports differ p a)) where
      by : (p : Port) (b : Bool) → length (zeros (port_width m.ports p.name)) ≡ p.width
          → cond b (length (zeros (port_width m.ports p.name)) ≡ p.width) (Unit {0})
      by p true h = h
      by p false h = tt

module _ (top : Built) (merged : IsMerged top.merged) (ms : List Module) (has : HasModules top.merged (top_module top ∷ ms)) where
  -- the inputs and states at a connection
  brought_at : (i j : ℕ) → InterfaceAt (top_module top) ms i j ⊎ (InterfaceAt (top_module top) ms i j → ⊥) → Values × Values
  brought_at i j (inl f) = let acts = interface_acts top merged ms has i j f in (nothing_brought f.is_face.registers.ports, acts.means.widths.reset_exists.0)
  brought_at i j (inr missing_there) = (λ n. [], λ n. [])

  pub states_there : HasStates (top_module top) ms
  unfolding brought_at
  states_there = record {
    inputs = λ i j. (brought_at i j (interface_or_not top merged ms has i j)).0;
    states = λ i j. (brought_at i j (interface_or_not top merged ms has i j)).1;
    have_widths = λ i j f. by i j f (interface_or_not top merged ms has i j);
  } where
    by : (i j : ℕ) (f : InterfaceAt (top_module top) ms i j) (d : InterfaceAt (top_module top) ms i j ⊎ (InterfaceAt (top_module top) ms i j → ⊥))
        → HasWidths f.is_face.registers (brought_at i j d).0 (brought_at i j d).1
    by i j f (inl g) =
        let same = same_interface (top_module top) ms i j g f in
        let acts = interface_acts top merged ms has i j g in
        subst (λ r. HasWidths r (brought_at i j (inl g)).0 (brought_at i j (inl g)).1) same.registers
        (record {
          inputs_fit = nothing_fits g.is_face.registers acts.means.ports.each_once;
          states_fit = acts.means.widths.reset_fits acts.means.widths.reset_exists.0 acts.means.widths.reset_exists.1;
        })
    by i j f (inr missing_there) = absurd (missing_there f)

pub states_exist : StatesExist
states_exist m numbers ties pins ms fits has = states_there (record { merged = m; numbers = numbers; ties = ties; pins = pins }) fits.merged ms has
