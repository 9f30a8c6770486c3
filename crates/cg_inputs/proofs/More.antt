-- What bytes read as stays where more bytes follow, and where one more command does.
use Rattle.std.proofs.Common.{ℕ, inl, inr, List, [], ◌∷◌, ◌++◌, refl, ap, sym, subst, ◌∙◌, append_assoc}
use Rattle.cg_inputs.specs.Input.{Command, bytes_for, Begins, IsEnd, IsNone, Reads}

pub begins_more : (cs rest more : List ℕ) (c : Command) → Begins cs c rest → Begins (cs ++ more) c (rest ++ more)
begins_more cs rest more c b = record {
  text = b.text;
  says = b.says;
  is = ap (λ t. t ++ more) b.is ∙ append_assoc b.text (10 ∷ (bytes_for c ++ rest)) more ∙ ap (λ t. b.text ++ (10 ∷ t)) (append_assoc (bytes_for c) rest more);
}

pub reads_more : (cs rest more : List ℕ) (a : List Command) → Reads cs a rest → Reads (cs ++ more) a (rest ++ more)
reads_more cs rest more [] r = ap (λ t. t ++ more) r
reads_more cs rest more (c ∷ a) r = (r.0 ++ more, begins_more cs r.0 more c r.1, reads_more r.0 rest more a r.2)

-- one command more
pub reads_next : (cs mid rest : List ℕ) (a : List Command) (c : Command) → Reads cs a mid → Begins mid c rest → Reads cs (a ++ c ∷ []) rest
reads_next cs mid rest [] c r b = (rest, subst (λ t. Begins t c rest) (sym r) b, refl)
reads_next cs mid rest (d ∷ a) c r b = (r.0, r.1, reads_next r.0 mid rest a c r.2 b)

-- what ends or is no command stays so
pub end_more : (cs rest more : List ℕ) → IsEnd cs rest → IsEnd (cs ++ more) (rest ++ more)
end_more cs rest more e = ap (λ t. t ++ more) e

pub none_more : (cs more : List ℕ) → IsNone cs → IsNone (cs ++ more)
none_more cs more (inl f) = inl (record { text = f.text; rest = f.rest ++ more; is = ap (λ t. t ++ more) f.is ∙ append_assoc f.text (10 ∷ f.rest) more; is_line = f.is_line; says_nothing = f.says_nothing })
none_more cs more (inr f) = inr (record { text = f.text; rest = f.rest ++ more; is = ap (λ t. t ++ more) f.is ∙ append_assoc f.text f.rest more; is_line = f.is_line; long = f.long })
