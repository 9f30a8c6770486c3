-- An input that is told decides the status.
use Rattle.std.proofs.Common.{◌≡◌, ◌⊎◌, inl, inr, ℕ, zero, suc, ◌+◌, ◌-◌, ◌<◌, ◌≤◌, Bool, true, false, cond, List, [], ◌∷◌, ◌++◌, length, length-append, take, Option, Some, None, refl, ap, sym, subst, ◌∙◌, append_assoc, append-nil, arith}
use Rattle.std.specs.Prelude.{nat_lt}
use Rattle.std.proofs.lemmas.Bool.Decides.{nat_tests}
use Rattle.std.proofs.lemmas.List.{take_all, take_at}
use Rattle.cg_base.specs.Outside.{Taken}
use Rattle.cg_inputs.specs.Input.{Command, IsEnd, IsNone, IsShort, Reads, Stop, ended, false_line, short, HasReading}
use Rattle.cg_inputs.proofs.Readings.{reads_once}
use Rattle.cg_inputs.proofs.More.{reads_more, end_more, none_more}
use Rattle.cg_deeds.specs.Outside.{World, Calm}
use Rattle.cg_deeds.specs.Deeds.{FaultRose}
use Rattle.cg_deeds.specs.declared.deed.Deed.{Deed}
use Rattle.cg_deeds.specs.declared.deed.Deed.TheVariants.{Write, Remove, Say}
use Rattle.cg_deeds.specs.declared.deed.Stream.TheVariants as stream
use Rattle.cg_session.specs.Ends.{SessionEnds, code_of}
use Rattle.cg_session.specs.Session.{limit, IsSpent, Finishes, IsNoCommand, IsTooLong, HasStatus, Completes}
use Rattle.cg_session.specs.declared.ending.Ending.{Ending}
use Rattle.cg_session.specs.declared.ending.Ending.TheVariants.{Good, Refused, NoCommand, ReadFailed, WriteFailed, Memory, TooLong}

-- a source that is told gives what it has
splits : (old new : Option (List ℕ)) (cs bytes : List ℕ) → Taken old new bytes → old ≡ Some cs → (rest : List ℕ) × (new ≡ Some rest) × (cs ≡ bytes ++ rest)
splits old None cs bytes t e = let bad : Some cs ≡ None = sym e ∙ t in cc
splits old (Some rest) cs bytes t e = let same : Some cs ≡ Some (bytes ++ rest) = sym e ∙ t in (rest, refl, cc)

take_behind : (n : ℕ) (xs ys : List ℕ) → length xs ≤ n → take n (xs ++ ys) ≡ xs ++ take (n - length xs) ys
take_behind n [] ys h = ap (λ m. take m ys) (omega arith)
take_behind zero (x ∷ xs) ys h = absurd (omega arith)
take_behind (suc n) (x ∷ xs) ys h =
    let e : n - length xs ≡ suc n - suc (length xs) = omega arith in
    ap (λ r. x ∷ r) (take_behind n xs ys (omega arith) ∙ ap (λ m. xs ++ take m ys) e)

-- ---- how the first bytes of an input read, of which so many were taken

module _ (n : ℕ) (cs bytes rest : List ℕ) (commands : List Command) (left : List ℕ) (is : cs ≡ bytes ++ left) (within : length bytes ≤ n) (reads : Reads bytes commands rest) where
  more : List ℕ
  more = take (n - length bytes) left

  front : take n cs ≡ bytes ++ more
  unfolding more
  front = ap (take n) is ∙ take_behind n bytes left within

  end_reads : IsEnd rest [] → (s : List ℕ) × HasReading (take n cs) commands (ended s)
  end_reads e = (
    more,
    record {
      rest = rest ++ more;
      reads = subst (λ t. Reads t commands (rest ++ more)) (sym front) (reads_more bytes rest more commands reads);
      stops = end_more rest [] more e;
    },
  )

  false_reads : IsNone rest → HasReading (take n cs) commands false_line
  false_reads e = record {
    rest = rest ++ more;
    reads = subst (λ t. Reads t commands (rest ++ more)) (sym front) (reads_more bytes rest more commands reads);
    stops = none_more rest more e;
  }

  short_reads : take n cs ≡ bytes → IsShort rest → HasReading (take n cs) commands short
  short_reads e s = record { rest = rest; reads = subst (λ t. Reads t commands rest) (sym e) reads; stops = s }

-- ---- the status

module _ (top dir cs : List ℕ) (many : Bool) (status : ℕ) where
  -- there is one reading, so the status of one is that of another
  once : (a b : List Command) (x y : Stop) → HasReading (take limit cs) a x → HasReading (take limit cs) b y → HasStatus top dir a x many status → HasStatus top dir b y many status
  once a b x y h k s =
      let e = reads_once (take limit cs) a b x y h k in
      subst (λ z. HasStatus top dir b z many status) e.1 (subst (λ c. HasStatus top dir c x many status) e.0 s)

module _ (top dir : List ℕ) (before after : World) (cs : List ℕ) (told : before.left ≡ Some cs) where
  finished : (refused : Bool) → Finishes refused top dir before after → (many : Bool) (b : List Command) (y : Stop) → HasReading (take limit cs) b y → HasStatus top dir b y many (cond refused 1 0)
  finished refused f many b y k =
      let t = f.has_done.has_taken in
      let s = splits before.left after.left cs t.bytes t.taken told in
      let r = end_reads limit cs t.bytes f.rest f.commands s.0 s.2 t.within t.reads f.is_end in
      once top dir cs many (cond refused 1 0) f.commands b (ended r.0) y r.1 k (f.kept, f.has_done.deeds, t.plays, ap (λ x. cond x 1 0) (sym f.last))

  spent_all : (bytes : List ℕ) → Taken before.left after.left bytes → IsSpent after.left → cs ≡ bytes
  spent_all bytes t e =
      let s = splits before.left after.left cs bytes t told in
      s.2 ∙ ap (λ r. bytes ++ r) (e s.0 s.1) ∙ append-nil bytes

  not_command : (a : List Command) (ds : List Deed) → IsNoCommand top dir before after a ds → (b : List Command) (y : Stop) → HasReading (take limit cs) b y
      → HasStatus top dir b y (nat_lt limit (length cs)) 2
  not_command a ds f b y k = go f.cause
    where
      go : IsNone f.rest ⊎ (IsShort f.rest × IsSpent after.left) → HasStatus top dir b y (nat_lt limit (length cs)) 2
      go (inl e) =
          let t = f.has_taken in
          let s = splits before.left after.left cs t.bytes t.taken told in
          once top dir cs (nat_lt limit (length cs)) 2 a b false_line y (false_reads limit cs t.bytes f.rest a s.0 s.2 t.within t.reads e) k refl
      go (inr e) =
          let t = f.has_taken in
          let all : cs ≡ t.bytes = spent_all t.bytes t.taken e.1 in
          let few : length cs ≤ limit = subst (λ x. length x ≤ limit) (sym all) t.within in
          let not_many : nat_lt limit (length cs) ≡ false = grind (arith, nat_tests) in
          let whole : take limit cs ≡ t.bytes = take_all limit cs few ∙ all in
          once top dir cs (nat_lt limit (length cs)) 2 a b short y
          (short_reads limit cs t.bytes f.rest a [] (all ∙ sym (append-nil t.bytes)) t.within t.reads whole e.0) k (sym (ap (λ m. cond m 6 2) not_many))

  too_long : IsTooLong top dir before after → (b : List Command) (y : Stop) → HasReading (take limit cs) b y → HasStatus top dir b y (nat_lt limit (length cs)) 6
  too_long f b y k =
      let s = splits before.left after.left cs (f.bytes ++ f.more ∷ []) f.taken told in
      let whole : cs ≡ f.bytes ++ (f.more ∷ s.0) = s.2 ∙ append_assoc f.bytes (f.more ∷ []) s.0 in
      let size : length cs ≡ length f.bytes + suc (length s.0) = ap length whole ∙ length-append f.bytes (f.more ∷ s.0) in
      let full = f.full in
      let many : nat_lt limit (length cs) ≡ true = let l : limit < length cs = omega arith in grind (arith, nat_tests) in
      let first : take limit cs ≡ f.bytes = ap (take limit) whole ∙ take_at f.bytes (f.more ∷ s.0) limit full in
      let within : length f.bytes ≤ limit = omega arith in
      once top dir cs (nat_lt limit (length cs)) 6 f.commands b short y
      (short_reads limit cs f.bytes f.rest f.commands (f.more ∷ s.0) whole within f.reads first f.is_short) k (sym (ap (λ m. cond m 6 2) many))

  calm_deed : (deed : Deed) → Calm before after → FaultRose deed before.outlets after.outlets → ⊥
  calm_deed (Write name bytes) calm rose = calm.changes rose
  calm_deed (Remove name) calm rose = calm.changes rose
  calm_deed (Say stream.Out line) calm rose = calm.out rose
  calm_deed (Say stream.Err line) calm rose = calm.err rose

  decided : (e : Ending) → SessionEnds e top dir before after → Calm before after → (b : List Command) (y : Stop) → HasReading (take limit cs) b y
      → HasStatus top dir b y (nat_lt limit (length cs)) (code_of e) ⊎ (code_of e ≡ 5)
  decided Good s calm b y k = inl (finished false s (nat_lt limit (length cs)) b y k)
  decided Refused s calm b y k = inl (finished true s (nat_lt limit (length cs)) b y k)
  decided NoCommand s calm b y k = inl (not_command s.commands s.deeds s.no_command b y k)
  decided ReadFailed s calm b y k = absurd (calm.input s.rose)
  decided WriteFailed s calm b y k = absurd (calm_deed s.deed calm s.rose)
  decided Memory s calm b y k = inr refl
  decided TooLong s calm b y k = inl (too_long s b y k)

-- a session's status is the one that its input decides
pub completes : (top dir : List ℕ) (before after : World) (e : Ending) → SessionEnds e top dir before after → Completes (code_of e) top dir before after
completes top dir before after e s calm cs told b y k = decided top dir before after cs told e s calm b y k
