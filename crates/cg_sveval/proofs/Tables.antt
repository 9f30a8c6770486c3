-- The table of a clock has the values of every valuation.
use Rattle.std.proofs.Common.{◌≡◌, ℕ, ◌⊎◌, inl, inr, Bool, true, false, cond, List, [], ◌∷◌, ◌++◌, ap, sym, ◌∙◌}
use Rattle.cg_svspec.specs.Names.{Among}
use Rattle.cg_svspec.specs.Printable.{AllOf}
use Rattle.cg_svspec.specs.Tree.{Port, Module}
use Rattle.cg_svspec.specs.Value.{Values, InputHolds, Valuation}
use Rattle.cg_svspec.specs.WellFormed.{stated, WellFormed, inputs_of, port_nets, instance_driven, expression_driven}
use Rattle.cg_svspec.specs.Register.{IsRegister}
use Rattle.cg_svspec.proofs.NamesLemmas.{among_parts}
use Rattle.cg_sveval.specs.declared.Cell.{Cell}
use Rattle.cg_sveval.specs.Cells.{AreCells, HasCells, input_nets, state_nets}
use Rattle.cg_sveval.specs.Tables.{Same, with_inputs, with_states, settled}
use Rattle.cg_sveval.proofs.Agree.{Agree, inputs_agree, settled_agrees}
use Rattle.cg_sveval.proofs.Clocks.{given_value, states_agree}

-- an input is among the nets of the inputs
input_there : (ps : List Port) (p : Port) → Among p ps → p.input ≡ true → Among (stated p.name p.width) (input_nets ps)
input_there [] p a is = absurd a
input_there (q ∷ ps) p (inl e) is = let here : q.input ≡ true = ap (λ (z : Port). z.input) (sym e) ∙ is in rw here (inl (ap (λ (z : Port). stated z.name z.width) e))
input_there (q ∷ ps) p (inr a) is = by q.input (input_there ps p a is) where
  by : (b : Bool) → Among (stated p.name p.width) (input_nets ps) → Among (stated p.name p.width) (cond b (stated q.name q.width ∷ input_nets ps) (input_nets ps))
  by true there = inr there
  by false there = there

-- an input has the value that is given
input_held : (v given : Values) (ps : List Port) → AllOf (InputHolds v given) ps → (p : Port) → Among p ps → p.input ≡ true → v p.name ≡ given p.name
input_held v given [] hold p a is = absurd a
input_held v given (q ∷ ps) hold p (inl e) is =
    let here : q.input ≡ true = ap (λ (z : Port). z.input) (sym e) ∙ is in
    let held : v q.name ≡ given q.name = rw here at hold.0 in
    rw e held
input_held v given (q ∷ ps) hold p (inr a) is = input_held v given ps hold.1 p a is

-- the steps of the table: nothing, the inputs, the states, the nets with an expression
pub record Steps (m : Module) (inputs states : List Cell) : Type 0 where
  pub start : Values
  pub with_ins : Values
  pub with_all : Values
  pub table : Values
  pub ins : Same with_ins (with_inputs inputs start m.ports)
  pub all : Same with_all (with_states states with_ins m.entries)
  pub done : Same table (settled with_all m.entries)

-- in every valuation, the table has the values of all driven nets and inputs
pub record TableAgrees (m : Module) (table v : Values) : Type 0 where
  pub known : Agree table v (inputs_of m.ports ++ instance_driven (inputs_of m.ports) m.entries)
  pub driven : Agree table v (expression_driven m.entries)

pub table_agrees : (m : Module) → WellFormed m → IsRegister m → (inputs states : List Cell) → AreCells (input_nets m.ports) inputs → AreCells (state_nets m.entries) states
    → (s : Steps m inputs states) → (given held v next : Values) → HasCells given (input_nets m.ports) inputs → HasCells held (state_nets m.entries) states → Valuation m given held v next
    → TableAgrees m s.table v
table_agrees m well is inputs states ins_are states_are s given held v next has_ins has_states valuation =
    record { known = λ n a. table n (inl (known n a)); driven = λ n a. table n (inr a) } where
      ins : (n : List ℕ) → Among n (inputs_of m.ports) → s.with_ins n ≡ v n
      ins n a =
          s.ins n
          ∙ inputs_agree inputs v m.ports s.start
          (λ p there input. given_value given (input_nets m.ports) inputs ins_are has_ins (stated p.name p.width) (input_there m.ports p there input)
          ∙ sym (input_held v given m.ports valuation.inputs_hold p there input)) n (inr a)

      known : (n : List ℕ) → Among n (inputs_of m.ports ++ instance_driven (inputs_of m.ports) m.entries) → s.with_all n ≡ v n
      known n a =
          s.all n
          ∙ states_agree (inputs_of m.ports) states v held next (port_nets m.ports) (inputs_of m.ports ++ instance_driven (inputs_of m.ports) m.entries) m.entries well.entries_fit is.entries
          valuation.entries_hold (given_value held (state_nets m.entries) states states_are has_states) s.with_ins n
          (split (among_parts n (inputs_of m.ports) (instance_driven (inputs_of m.ports) m.entries) a)) where
            split : Among n (inputs_of m.ports) ⊎ Among n (instance_driven (inputs_of m.ports) m.entries) → (s.with_ins n ≡ v n) ⊎ Among n (instance_driven (inputs_of m.ports) m.entries)
            split (inl b) = inl (ins n b)
            split (inr b) = inr b

      table : (n : List ℕ) → (s.with_all n ≡ v n) ⊎ Among n (expression_driven m.entries) → s.table n ≡ v n
      table n a =
          s.done n
          ∙ settled_agrees (inputs_of m.ports) s.with_all v held next (port_nets m.ports) (inputs_of m.ports ++ instance_driven (inputs_of m.ports) m.entries) m.entries well.entries_fit
          valuation.entries_hold known n a
