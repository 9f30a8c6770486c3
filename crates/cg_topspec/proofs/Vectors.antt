-- The bits of a top's vectors, and of its ports that take bits in.
use Rattle.std.proofs.Common.{Bool, List, [], ap, append_assoc, arith, codes, cond, drop, eqb, false, flat_map, get_or, inl, inr, length, map, refl, reverse, subst, suc, sym, take, true, zero, ℕ, ◌++◌, ◌-◌, ◌<◌, ◌∙◌, ◌∷◌, ◌≡◌, ◌≢◌}
use Rattle.std.proofs.lemmas.Bool.{eqb-true}
use Rattle.std.proofs.lemmas.List.{reverse-append}
use Rattle.cg_desc.specs.declared.top.MergedTop.{MergedTop}
use Rattle.cg_svspec.specs.Bits.{bits}
use Rattle.cg_svspec.specs.Names.{Among}
use Rattle.cg_svspec.specs.Tree.{cut, Entry, Expression, assign, expressions, lit, net}
use Rattle.cg_svspec.specs.Value.{eval, eval_parts, AllHold, Holds, Valuation, Values}
use Rattle.cg_topspec.proofs.Built.{Built, instance_wires, top_assigns, top_entries, top_module, top_nets}
use Rattle.cg_topspec.proofs.ListLemmas.{in_back, in_counting, in_each, in_front, in_map}
use Rattle.cg_topspec.proofs.Whole.{entries_of_top}
use Rattle.cg_topspec.specs.NetLaws.{BitIsRead, VectorsAre, VectorsHold}
use Rattle.cg_topspec.specs.Nets.{alert_bit, input_pins, interrupt_bit, pin_output_bit}
use Rattle.cg_topspec.specs.Top.{block_of, counting, instance_numbers, ordered}
use Rattle.cg_topspec.specs.TopModule.{alert_wires, bits_of, interrupt_wires, node_wires, pad_driver, pad_outputs, pin_input_wire, pin_output_wires, pin_source, port_bit, vector_assign}

holds_in : (v state next : Values) (es : List Entry) (e : Entry) → AllHold v state next es → Among e es → Holds v state next e
holds_in v state next [] e h a = absurd a
holds_in v state next (x ∷ es) e h (inl s) = subst (Holds v state next) (sym s) h.0
holds_in v state next (x ∷ es) e h (inr a) = holds_in v state next es e h.1 a

append_nothing : {A : Type 0} (xs : List A) → xs ++ [] ≡ xs
append_nothing [] = refl
append_nothing (x ∷ xs) = ap (λ z. x ∷ z) (append_nothing xs)

flat_join : (f : Expression → List Bool) (xs ys : List Expression) → flat_map f (xs ++ ys) ≡ flat_map f xs ++ flat_map f ys
flat_join f [] ys = refl
flat_join f (x ∷ xs) ys = ap (λ z. f x ++ z) (flat_join f xs ys) ∙ sym (append_assoc (f x) (flat_map f xs) (flat_map f ys))

-- the last of several expressions is the low part
parts_join : (v : Values) (xs : List Expression) (y : Expression) → eval_parts v (expressions (xs ++ y ∷ [])) ≡ eval v y ++ eval_parts v (expressions xs)
parts_join v [] y = sym (append_nothing (eval v y))
parts_join v (x ∷ xs) y = ap (λ z. z ++ eval v x) (parts_join v xs y) ∙ append_assoc (eval v y) (eval_parts v (expressions xs)) (eval v x)

-- several bits stand from the lowest up
bits_are : (v : Values) (xs : List Expression) → eval v (bits_of xs) ≡ flat_map (eval v) xs
bits_are v xs = reversed xs where
  reversed : (xs : List Expression) → eval_parts v (expressions (reverse xs)) ≡ flat_map (eval v) xs
  reversed [] = refl
  reversed (x ∷ xs) = ap (λ ys. eval_parts v (expressions ys)) (reverse-append (x ∷ []) xs) ∙ (parts_join v (reverse xs) x ∙ ap (λ z. eval v x ++ z) (reversed xs))

vector_there : (name : List ℕ) (xs : List Expression) → xs ≢ [] → Among (assign name (bits_of xs)) (vector_assign name xs)
vector_there name [] some = absurd (some refl)
vector_there name (x ∷ xs) some = inl refl

mapped_some : {A : Type 0} (f : A → Expression) (xs : List A) → xs ≢ [] → map f xs ≢ []
mapped_some f [] some e = some refl
mapped_some f (x ∷ xs) some e = cc

counting_some : {A : Type 0} (xs : List A) → xs ≢ [] → counting 0 (length xs) ≢ []
counting_some [] some e = some refl
counting_some (x ∷ xs) some e = cc

mapped_numbers : (f : ℕ → Expression) (ks : List ℕ) → ks ≢ [] → map f ks ≢ []
mapped_numbers f [] some e = some refl
mapped_numbers f (k ∷ ks) some e = cc

module _ (top : Built) (inputs given v next : Values) (valuation : Valuation (top_module top) inputs given v next) where
  all : AllHold v given next (top_entries top)
  all = subst (AllHold v given next) (entries_of_top top) valuation.entries_hold

  assigned : (name : List ℕ) (xs : List Expression) → Among (assign name (bits_of xs)) (top_assigns top) → v name ≡ flat_map (eval v) xs
  assigned name xs a =
      holds_in v given next (top_entries top) (assign name (bits_of xs)) all
      (in_front _ (top_nets top) _ (in_back _ (flat_map (node_wires top.merged) (ordered top.merged)) _ (in_back _ (flat_map (instance_wires top) (instance_numbers top.merged)) _ a)))
      ∙ bits_are v xs

  its_vectors : VectorsAre top.merged top.numbers top.pins v
  unfolding bits
  its_vectors = record {
    interrupts = assigned (codes "intr_src") (lit 1 0 ∷ map (interrupt_bit m) top.numbers.intr) (inl refl);
    alerts = λ some. assigned (codes "alert_src") (map (alert_bit m) top.numbers.alert) (inr (in_front _ alerts _ (vector_there (codes "alert_src") _ (mapped_some (alert_bit m) top.numbers.alert some))));
    outputs = λ some. assigned (codes "mio_out") (map (pin_output_bit m) top.pins.outs)
        (inr (in_back _ alerts _ (in_front _ outs _ (vector_there (codes "mio_out") _ (mapped_some (pin_output_bit m) top.pins.outs some)))));
    pads = λ some. assigned (codes "pad_out") (pad_outputs m top.pins)
        (inr (in_back _ alerts _ (in_back _ outs _ (vector_there (codes "pad_out") _ (mapped_numbers (λ pad. pad_driver m pad top.pins.pads) (counting 0 (length m.top.pads)) (counting_some m.top.pads some))))));
    inputs = λ i p less a.
        holds_in v given next (top_entries top) (pin_input_wire m top.pins i p) all
        (in_front _ (top_nets top) _ (in_back _ (flat_map (node_wires m) (ordered m)) _ (in_front _ (flat_map (instance_wires top) (instance_numbers m)) _
        (in_each (instance_wires top) (instance_numbers m) i _ (in_counting 0 (length m.top.insts) i (omega arith) (omega (arith, less)))
        (in_back _ (interrupt_wires m i) _ (in_back _ (alert_wires m i) _ (in_back _ (pin_output_wires m i) _ (in_map (pin_input_wire m top.pins i) (input_pins (block_of m i)) p a))))))))
        ∙ bits_are v (map (λ k. pin_source m top.pins (port_bit i p.number k)) (counting 0 p.port.width));
  } where
    m : MergedTop
    m = top.merged

    alerts : List Entry
    alerts = vector_assign (codes "alert_src") (map (alert_bit top.merged) top.numbers.alert)

    outs : List Entry
    outs = vector_assign (codes "mio_out") (map (pin_output_bit top.merged) top.pins.outs)

pub vectors_hold : VectorsHold
vectors_hold m numbers ties pins inputs given v next valuation = its_vectors (record { merged = m; numbers = numbers; ties = ties; pins = pins }) inputs given v next valuation

-- ---- a bit of a net

one_bit : (bs : List Bool) → length bs ≡ 1 → bs ≡ get_or bs 0 false ∷ []
one_bit [] e = absurd (omega (arith, e))
one_bit (b ∷ []) e = refl
one_bit (b ∷ (c ∷ bs)) e = absurd (omega (arith, e))

bit_in : (bs : List Bool) (k : ℕ) → k < length bs → take 1 (drop k bs) ≡ get_or bs k false ∷ []
bit_in [] k h = absurd (omega (arith, h))
bit_in (b ∷ bs) zero h = refl
bit_in (b ∷ bs) (suc k) h = bit_in bs k (omega (arith, h))

pub bit_is_read : BitIsRead
bit_is_read v name width k wide less = by (eqb width 1) refl where
  by : (b : Bool) → eqb width 1 ≡ b → eval v (cond b (net name) (cut name k k)) ≡ get_or (v name) k false ∷ []
  by true e =
      let one : width ≡ 1 = eqb-true width 1 e in
      let first : k ≡ 0 = omega (arith, less, one) in
      one_bit (v name) (wide ∙ one) ∙ ap (λ j. get_or (v name) j false ∷ []) (sym first)
  by false e =
      let step : suc k - k ≡ 1 = omega arith in
      ap (λ j. take j (drop k (v name))) step ∙ bit_in (v name) k (omega (arith, less, wide))
