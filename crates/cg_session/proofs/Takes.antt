-- Bytes that are taken one after the other.
use Rattle.std.proofs.Common.{◌≡◌, ℕ, zero, suc, take, ◌+◌, ◌≤◌, List, [], ◌∷◌, ◌++◌, length, length-append, Option, Some, None, refl, ap, sym, ◌∙◌, append_assoc, arith}
use Rattle.std.specs.Option.{option_map}
use Rattle.std.specs.Prelude.{eqb, not, Result, Ok, Err, false, ◌≢◌, IsErr}
use Rattle.std.proofs.lemmas.Bool.Decides.{nat_tests}
use Rattle.cg_base.specs.Outside.{Taken}
use Rattle.cg_base.specs.declared.memory.Memory.{Memory}
use Rattle.cg_inputs.specs.Lines.{HasNoFeed}
use Rattle.cg_inputs.proofs.LineLaws.{each_more}
use Rattle.cg_session.specs.declared.reader.TextRead.{TextRead}
use Rattle.cg_session.specs.Session.{IsSpent}
use Rattle.cg_session.specs.Taking.{TakesSome, TakesText, TakesBytes}
use Rattle.cg_session.specs.declared.reader.BytesRead.{BytesRead}

pub taken_none : (a : Option (List ℕ)) → Taken a a []
taken_none None = refl
taken_none (Some x) = refl

both : (c : Option (List ℕ)) (xs ys : List ℕ) → option_map (λ r. xs ++ r) (option_map (λ r. ys ++ r) c) ≡ option_map (λ r. (xs ++ ys) ++ r) c
both None xs ys = refl
both (Some r) xs ys = ap Some (sym (append_assoc xs ys r))

-- what is taken later stands behind
pub taken_more : (a b c : Option (List ℕ)) (xs ys : List ℕ) → Taken a b xs → Taken b c ys → Taken a c (xs ++ ys)
taken_more a b c xs ys h k = h ∙ ap (λ o. option_map (λ r. xs ++ r) o) k ∙ both c xs ys

same_left : (c : Option (List ℕ)) → option_map (λ r. [] ++ r) c ≡ c
same_left None = refl
same_left (Some r) = refl

-- nothing was taken
pub untaken : (a b : Option (List ℕ)) → Taken a b [] → a ≡ b
untaken a b h = h ∙ same_left b

-- where a source that is told has nothing left, nothing is left
pub spent : (a b : Option (List ℕ)) → Taken a b [] → IsSpent a → IsSpent b
spent a b h k = λ rest e. k rest (untaken a b h ∙ e)

-- one byte more of a line
pub line_more : (text : List ℕ) (b : ℕ) → HasNoFeed text → b ≢ 10 → HasNoFeed (text ++ b ∷ [])
line_more text b h k = each_more (λ c. not (eqb c 10)) text (b ∷ []) h (let t : eqb b 10 ≡ false = grind (arith, nat_tests) in ap not t, tt)

-- some bytes, where no memory was found for one more
pub some_more : (room : ℕ) (a b c : Option (List ℕ)) (xs ys : List ℕ) (f g h : ℕ) → Taken a b xs → Taken b c ys → f ≤ g → g ≤ h → length xs + length ys ≤ room → TakesSome room a c f h
some_more room a b c xs ys f g h p q l m n =
    record { bytes = xs ++ ys; taken = taken_more a b c xs ys p q; within = omega (arith, length-append xs ys); later = omega arith }

pub unfound : (r : Result TextRead Memory) (room : ℕ) (text : List ℕ) (a c : Option (List ℕ)) (f h : ℕ) → IsErr r → TakesSome room a c f h → TakesText r room text a c f h
unfound (Ok x) room text a c f h e s = let bad : ⊥ = cc in absurd bad
unfound (Err x) room text a c f h e s = s

-- bytes, and then some
pub then_some : (room less : ℕ) (a b c : Option (List ℕ)) (xs : List ℕ) (f g h : ℕ) → Taken a b xs → f ≤ g → length xs + less ≤ room → TakesSome less b c g h → TakesSome room a c f h
then_some room less a b c xs f g h p l n s =
    let m = s.later in let w = s.within in
    record { bytes = xs ++ s.bytes; taken = taken_more a b c xs s.bytes p s.taken; within = omega (arith, length-append xs s.bytes); later = omega arith }

pub unfound_bytes : (r : Result BytesRead Memory) (count room : ℕ) (text : List ℕ) (a c : Option (List ℕ)) (f h : ℕ) → IsErr r → TakesSome room a c f h → TakesBytes r count room text a c f h
unfound_bytes (Ok x) count room text a c f h e s = let bad : ⊥ = cc in absurd bad
unfound_bytes (Err x) count room text a c f h e s = s

-- a front of a list has no more than is asked for
pub take_short : (n : ℕ) (xs : List ℕ) → length (take n xs) ≤ n
take_short zero xs = omega arith
take_short (suc n) [] = omega arith
take_short (suc n) (x ∷ xs) = let k = take_short n xs in omega arith
