-- Bits of nets, and several of them together, are expressions of the grammar.
use Rattle.std.proofs.Common.{Bool, List, [], arith, codes, cond, eqb, false, length, max, refl, reverse, subst, sym, true, ℕ, ◌<◌, ◌^◌, ◌∷◌, ◌≤◌}
use Rattle.std.proofs.lemmas.List.{reverse-append}
use Rattle.cg_desc.specs.Merged.{IsMerged}
use Rattle.cg_desc.specs.declared.top.MergedTop.{MergedTop}
use Rattle.cg_pinmux.specs.declared.map.PinMap.{PinMap}
use Rattle.cg_svspec.proofs.WellNames.{literal_name}
use Rattle.cg_svspec.specs.Characters.{IsName}
use Rattle.cg_svspec.specs.Printable.{AllOf, ArePrintable, IsExpression, IsPrintableExpression, IsSomeOf, depth, depth_of_parts}
use Rattle.cg_svspec.specs.Tree.{Expression, cat, cut, expressions, net}
use Rattle.cg_topspec.proofs.EachItem.{each_reversed, some_back}
use Rattle.cg_topspec.proofs.NetNames.{alert_named, interrupt_named, pin_output_named}
use Rattle.cg_topspec.proofs.PartNames.{interrupt_valid, output_valid}
use Rattle.cg_topspec.proofs.ReadBits.{IsBit, IsGiven, IsVectorIn, bit_of, nought, of_alert, of_inputs, of_interrupt, of_output, of_pads}
use Rattle.cg_topspec.specs.TopModule.{bits_of}

-- a net's name can be printed, and its width is within the rule
pub record IsNamedNet (name : List ℕ) (width : ℕ) : Type 0 where
  pub named : IsName name
  pub few : width ≤ 65536

module _ (P : List ℕ → ℕ → Type 0) (good : (name : List ℕ) (width : ℕ) → P name width → IsNamedNet name width) where
  bit_printable : (x : Expression) → IsBit P x → IsPrintableExpression x × (depth x ≤ 1)
  bit_printable x nought = ((omega arith, omega arith, omega arith), omega arith)
  bit_printable x (bit_of name width k is less) = by (good name width is) (eqb width 1) where
    by : IsNamedNet name width → (b : Bool) → IsPrintableExpression (cond b (net name) (cut name k k)) × (depth (cond b (net name) (cut name k k)) ≤ 1)
    by h true = (h.named, omega arith)
    by h false = let low : k < 2 ^ 16 = omega (arith, h.few, less) in ((h.named, low, low), omega arith)

  parts_printable : (xs : List Expression) → AllOf (IsBit P) xs → ArePrintable (expressions xs) × (depth_of_parts (expressions xs) ≤ 1)
  parts_printable [] all = (tt, omega arith)
  parts_printable (x ∷ xs) all =
      let h = bit_printable x all.0 in
      let t = parts_printable xs all.1 in
      ((h.0, t.0), part_deep (depth x) (depth_of_parts (expressions xs)) h.1 t.1) where
        part_deep : (a b : ℕ) → a ≤ 1 → b ≤ 1 → max a b ≤ 1
        part_deep a b p q = omega arith

  -- several bits, of which there is one at least
  pub bits_printable : (xs : List Expression) → IsSomeOf xs → AllOf (IsBit P) xs → IsExpression (bits_of xs)
  bits_printable xs some all = by (reverse xs) (some_reversed xs some) (each_reversed (IsBit P) xs all) where
    some_reversed : (xs : List Expression) → IsSomeOf xs → IsSomeOf (reverse xs)
    some_reversed [] some = absurd some
    some_reversed (x ∷ xs) some = subst IsSomeOf (sym (reverse-append (x ∷ []) xs)) (some_back (reverse xs) (x ∷ []) tt)

    by : (ys : List Expression) → IsSomeOf ys → AllOf (IsBit P) ys → IsExpression (cat (expressions ys))
    by [] some all = absurd some
    by (y ∷ ys) some all = let h = parts_printable (y ∷ ys) all in (h.0, omega (arith, h.1))

-- a bare net
pub net_printable : (name : List ℕ) → IsName name → IsExpression (net name)
net_printable name h = (h, omega arith)

-- ---- the nets of which bits are read

module _ (m : MergedTop) (merged : IsMerged m) where
  pub vector_good : (pins : PinMap) → length pins.ins ≤ 65536 → (name : List ℕ) (width : ℕ) → IsVectorIn m pins name width → IsNamedNet name width
  vector_good pins few name width (of_inputs some) = record { named = literal_name (codes "mio_in") refl refl; few = few }
  vector_good pins few name width (of_pads some) = record { named = literal_name (codes "pad_in") refl refl; few = omega (arith, merged.top.few_pads) }

  pub given_good : (name : List ℕ) (width : ℕ) → IsGiven m name width → IsNamedNet name width
  given_good name width (of_interrupt i x less a) = record {
    named = interrupt_named m merged i less x a;
    few = omega (arith, (interrupt_valid m merged i less x a).few_bits);
  }
  given_good name width (of_alert i x less a) = record { named = alert_named m merged i less x a; few = omega arith }
  given_good name width (of_output i p less a) = record {
    named = pin_output_named m merged i less p a;
    few = omega (arith, (output_valid m merged i less p a).few_bits);
  }
