-- The cells at reset are the states at reset.
use Rattle.std.proofs.Common.{◌≡◌, ℕ, ◌^◌, ◌<◌, ◌≤◌, inl, inr, true, Option, Some, List, [], ◌∷◌, length, refl, ap, sym, subst, ◌∙◌, codes}
use Rattle.std.specs.Str.{bytes_eq}
use Rattle.cg_svspec.specs.Bits.{Bits, bits}
use Rattle.cg_svspec.specs.Printable.{AllOf}
use Rattle.cg_svspec.specs.Tree.{Expression, net, Parameter, Connection, Entry, wire, drive, assign, inst}
use Rattle.cg_svspec.specs.Value.{Values, connection_at, parameter_at, flop_name, ResetHolds, IsResetIn}
use Rattle.cg_svspec.specs.WellFormed.{Net, stated, IsBareNet, FlopFits, EntriesFit}
use Rattle.cg_svspec.specs.Register.{IsNarrow, IsRegisterEntry}
use Rattle.cg_svspec.proofs.BitLists.{length-bits}
use Rattle.cg_svspec.proofs.Widths.{is_flop}
use Rattle.cg_sveval.specs.declared.Cell.{Cell}
use Rattle.cg_sveval.specs.Cells.{HasCells, InOrder, state_nets}
use Rattle.cg_sveval.specs.Numbers.{number_of}
use Rattle.cg_sveval.specs.Tables.{cell, reset_cells}
use Rattle.cg_sveval.proofs.Numbers.{number_below, bits_of_number}

-- the net at `q_o`
pub record Bare (x : Option Expression) : Type 0 where
  pub name : List ℕ
  pub is : x ≡ Some (net name)

pub bare_net : (x : Option Expression) → IsBareNet x → Bare x
bare_net (Some (net q)) bare = record { name = q; is = refl }
bare_net x bare = absurd bare

-- the state of a flip-flop comes first
pub state_here : (m n : List ℕ) (nets : List Net) (ps : List Parameter) (cs : List Connection) (es : List Entry) (q : List ℕ) → bytes_eq m flop_name ≡ true → (fits : FlopFits nets ps cs)
    → connection_at (codes "q_o") cs ≡ Some (net q) → state_nets (inst m ps n cs ∷ es) ≡ stated q fits.width ∷ state_nets es
state_here m n nets ps cs es q flop fits is = rw (flop, fits.width_is, is) refl

reset_here : (table : Values) (m n : List ℕ) (nets : List Net) (ps : List Parameter) (cs : List Connection) (es : List Entry) (q : List ℕ) → (fits : FlopFits nets ps cs)
    → connection_at (codes "q_o") cs ≡ Some (net q) → reset_cells table (inst m ps n cs ∷ es) ≡ cell q (number_of 32 (bits fits.width fits.reset)) ∷ reset_cells table es
reset_here table m n nets ps cs es q fits is = rw (is, fits.reset_is) refl

-- a width of at most 32
pub narrow : (nets : List Net) (ps : List Parameter) (cs : List Connection) → (fits : FlopFits nets ps cs) → IsNarrow (parameter_at (codes "Width") ps) → fits.width ≤ 32
narrow nets ps cs fits is = rw fits.width_is at is

-- a list of this width has a number below, whose bits it is
pub number_fits : (w : ℕ) (xs : Bits) → length xs ≡ w → w ≤ 32 → number_of 32 xs < 2 ^ w
number_fits w xs is few = subst (λ z. number_of 32 xs < 2 ^ z) is (number_below 32 xs (subst (λ z. z ≤ 32) (sym is) few))

pub number_is : (w : ℕ) (xs : Bits) → length xs ≡ w → w ≤ 32 → bits w (number_of 32 xs) ≡ xs
number_is w xs is few = ap (λ z. bits z (number_of 32 xs)) (sym is) ∙ bits_of_number 32 xs (subst (λ z. z ≤ 32) (sym is) few)

-- the same with equal lists
pub in_order_by : (ns ms : List Net) (cs ds : List Cell) → ns ≡ ms → cs ≡ ds → InOrder ms ds → InOrder ns cs
in_order_by ns ms cs ds e f order = subst (λ z. InOrder z cs) (sym e) (subst (λ z. InOrder ms z) (sym f) order)

pub has_by : (values : Values) (ns ms : List Net) (cs ds : List Cell) → ns ≡ ms → cs ≡ ds → HasCells values ns cs → HasCells values ms ds
has_by values ns ms cs ds e f has = subst (λ z. HasCells values z ds) e (subst (λ z. HasCells values ns z) f has)

-- the cells stand in entry order
pub resets_in_order : (inputs : List (List ℕ)) (table : Values) (nets : List Net) (known : List (List ℕ)) (es : List Entry) → EntriesFit inputs nets known es → AllOf IsRegisterEntry es
    → InOrder (state_nets es) (reset_cells table es)
resets_in_order inputs table nets known [] fit flops = tt
resets_in_order inputs table nets known (wire w n ∷ es) fit flops = resets_in_order inputs table (stated n w ∷ nets) known es fit flops.1
resets_in_order inputs table nets known (drive w n x ∷ es) fit flops = resets_in_order inputs table (stated n w ∷ nets) (n ∷ known) es fit.2 flops.1
resets_in_order inputs table nets known (assign n x ∷ es) fit flops = resets_in_order inputs table nets (n ∷ known) es fit.2 flops.1
resets_in_order inputs table nets known (inst m ps n cs ∷ es) fit flops =
    let flop = is_flop m nets ps cs flops.0.0 fit.0 in
    let q = bare_net (connection_at (codes "q_o") cs) flop.bare in
    let few = narrow nets ps cs flop flops.0.1 in
    in_order_by (state_nets (inst m ps n cs ∷ es)) (stated q.name flop.width ∷ state_nets es) (reset_cells table (inst m ps n cs ∷ es))
    (cell q.name (number_of 32 (bits flop.width flop.reset)) ∷ reset_cells table es) (state_here m n nets ps cs es q.name flops.0.0 flop q.is)
    (reset_here table m n nets ps cs es q.name flop q.is)
    ((refl, number_fits flop.width (bits flop.width flop.reset) (length-bits flop.width flop.reset) few), resets_in_order inputs table nets known es fit.2 flops.1)

-- values of the cells are the states at reset
pub resets_mean : (inputs : List (List ℕ)) (table values : Values) (nets : List Net) (known : List (List ℕ)) (es : List Entry) → EntriesFit inputs nets known es → AllOf IsRegisterEntry es
    → HasCells values (state_nets es) (reset_cells table es) → AllOf (IsResetIn values) es
resets_mean inputs table values nets known [] fit flops has = tt
resets_mean inputs table values nets known (wire w n ∷ es) fit flops has = (tt, resets_mean inputs table values (stated n w ∷ nets) known es fit flops.1 has)
resets_mean inputs table values nets known (drive w n x ∷ es) fit flops has = (tt, resets_mean inputs table values (stated n w ∷ nets) (n ∷ known) es fit.2 flops.1 has)
resets_mean inputs table values nets known (assign n x ∷ es) fit flops has = (tt, resets_mean inputs table values nets (n ∷ known) es fit.2 flops.1 has)
resets_mean inputs table values nets known (inst m ps n cs ∷ es) fit flops has =
    let flop = is_flop m nets ps cs flops.0.0 fit.0 in
    let q = bare_net (connection_at (codes "q_o") cs) flop.bare in
    let few = narrow nets ps cs flop flops.0.1 in
    let here : HasCells values (stated q.name flop.width ∷ state_nets es) (cell q.name (number_of 32 (bits flop.width flop.reset)) ∷ reset_cells table es) =
    has_by values (state_nets (inst m ps n cs ∷ es)) (stated q.name flop.width ∷ state_nets es) (reset_cells table (inst m ps n cs ∷ es))
    (cell q.name (number_of 32 (bits flop.width flop.reset)) ∷ reset_cells table es) (state_here m n nets ps cs es q.name flops.0.0 flop q.is)
    (reset_here table m n nets ps cs es q.name flop q.is) has in
    let value : values q.name ≡ bits flop.width flop.reset =
    here (stated q.name flop.width) (cell q.name (number_of 32 (bits flop.width flop.reset))) (inl refl) (inl refl) refl
    ∙ number_is flop.width (bits flop.width flop.reset) (length-bits flop.width flop.reset) few in
    let held : ResetHolds values (parameter_at (codes "ResetValue") ps) (connection_at (codes "q_o") cs) = rw (flop.reset_is, q.is) value in
    (rw flops.0.0 held, resets_mean inputs table values nets known es fit.2 flops.1 (λ k c a b. here k c (inr a) (inr b)))
