-- What the next command took, by its line and its bytes.
use Rattle.std.proofs.Common.{◌≡◌, ℕ, ◌+◌, ◌-◌, ◌<◌, ◌≤◌, inl, inr, List, [], ◌∷◌, ◌++◌, length, length-append, Option, Some, None, refl, ap, sym, subst, ◌∙◌, append_assoc, append-nil, arith}
use Rattle.std.specs.Prelude.{Result, Ok, Err, IsErr}
use Rattle.cg_base.specs.Outside.{Taken, Rose}
use Rattle.cg_base.specs.declared.memory.Memory.{Memory}
use Rattle.cg_inputs.specs.Lines.{HasNoFeed}
use Rattle.cg_inputs.specs.Lines.{put, finish, Says}
use Rattle.cg_inputs.specs.Input.{Command, put_file, line_for, bytes_for, IsShort}
use Rattle.cg_inputs.specs.Reading.{line_of}
use Rattle.cg_inputs.proofs.LineLaws.{says, said}
use Rattle.cg_session.specs.Taking.{TakesSome, TakesFew, TakesAll, TakesRoom, TakesPart, TakesBroken, TakesLong, TakesFull, TakesNext, TakesEnd, TakesFalse, TakesLess, TakesOver, TakesCommand}
use Rattle.cg_session.specs.declared.command.Got.{Got}
use Rattle.cg_session.proofs.Takes.{taken_more}

line_then : (text bytes : List ℕ) → (text ++ 10 ∷ []) ++ bytes ≡ text ++ (10 ∷ bytes)
line_then text bytes = append_assoc text (10 ∷ []) bytes

length_then : (text bytes : List ℕ) → length ((text ++ 10 ∷ []) ++ bytes) ≡ length text + 1 + length bytes
length_then text bytes = ap length (line_then text bytes) ∙ omega (arith, length-append text (10 ∷ bytes))

-- ---- behind the line of a put

module _ (text name : List ℕ) (count room : ℕ) (first old new : Option (List ℕ)) (f g h : ℕ) (s : Says text (put name count)) (t : Taken first old (text ++ 10 ∷ [])) (l : f ≤ g) where
  pub put_whole : (name' bytes bytes' : List ℕ) (room' : ℕ) → name' ≡ name → bytes' ≡ bytes → room' ≡ room - length bytes → TakesAll count room bytes old new g h
      → TakesNext (put_file name' bytes') (length text + 1 + room) room' first new f h
  put_whole name' bytes bytes' room' en eb er a =
      let m = a.later in let w = a.within in
      subst (λ n. TakesNext (put_file n bytes') (length text + 1 + room) room' first new f h) (sym en)
      (subst (λ b. TakesNext (put_file name b) (length text + 1 + room) room' first new f h) (sym eb) (record {
        bytes = (text ++ 10 ∷ []) ++ bytes;
        taken = taken_more first old new (text ++ 10 ∷ []) bytes t a.taken;
        begins = record {
          text = text;
          says = subst (λ n. Says text (put name n)) (sym a.all) s;
          is = line_then text bytes ∙ ap (λ b. text ++ (10 ∷ b)) (sym (append-nil bytes));
        };
        counted = omega (arith, length_then text bytes);
        later = omega arith;
      }))

  put_begun : (bytes : List ℕ) → length bytes < count → IsShort ((text ++ 10 ∷ []) ++ bytes)
  put_begun bytes k = inr (record { text = text; name = name; count = count; bytes = bytes; says = s; is = line_then text bytes; few = k })

  pub put_less : (bytes : List ℕ) → TakesFew count room bytes old new g h → TakesLess (length text + 1 + room) first new f h
  put_less bytes a =
      let m = a.later in let w = a.within in
      record {
        bytes = (text ++ 10 ∷ []) ++ bytes;
        taken = taken_more first old new (text ++ 10 ∷ []) bytes t a.taken;
        is_short = put_begun bytes a.few;
        within = omega (arith, length_then text bytes);
        later = omega arith;
      }

  pub put_over : (bytes : List ℕ) → TakesRoom count room bytes old new g h → TakesOver (length text + 1 + room) first new f h
  put_over bytes a =
      let m = a.later in let w = a.full in
      record {
        bytes = (text ++ 10 ∷ []) ++ bytes;
        more = a.more;
        taken = subst (Taken first new) (sym (append_assoc (text ++ 10 ∷ []) bytes (a.more ∷ []))) (taken_more first old new (text ++ 10 ∷ []) (bytes ++ a.more ∷ []) t a.taken);
        is_short = put_begun bytes a.few;
        full = omega (arith, length_then text bytes);
        later = omega arith;
      }

-- ---- behind a whole line

module _ (text : List ℕ) (room : ℕ) (first old : Option (List ℕ)) (f g : ℕ) (t : Taken first old (text ++ 10 ∷ [])) (l : f ≤ g) where
  pub line_command : (c : Command) → bytes_for c ≡ [] → Some (line_for c) ≡ line_of text → TakesNext c (length text + 1 + room) room first old f g
  line_command c none e = record {
    bytes = text ++ 10 ∷ [];
    taken = t;
    begins = record { text = text; says = says text (line_for c) (sym e); is = ap (λ b. text ++ (10 ∷ b)) (sym (append-nil (bytes_for c) ∙ none)) };
    counted = omega (arith, length-append text (10 ∷ []));
    later = l;
  }

  pub line_end : Some finish ≡ line_of text → TakesEnd (length text + 1 + room) first old f g
  line_end e = record {
    bytes = text ++ 10 ∷ [];
    taken = t;
    is_end = ap (λ b. b ++ 10 ∷ []) (says text finish (sym e));
    within = omega (arith, length-append text (10 ∷ []));
    later = l;
  }

  pub line_false : HasNoFeed text → None ≡ line_of text → TakesFalse (length text + 1 + room) first old f g
  line_false n e = record {
    bytes = text ++ 10 ∷ [];
    taken = t;
    is_none = inl (record { text = text; rest = []; is = refl; is_line = n; says_nothing = λ m s. let bad : None ≡ Some m = e ∙ said text m s in cc });
    within = omega (arith, length-append text (10 ∷ []));
    later = l;
  }

-- ---- less than a line

module _ (room : ℕ) (text : List ℕ) (old new : Option (List ℕ)) (f g : ℕ) where
  pub long_false : TakesLong room text old new f g → TakesFalse room old new f g
  long_false a = record { bytes = text; taken = a.taken; is_none = inr (record { text = text; rest = []; is = sym (append-nil text); is_line = a.is_line; long = a.long }); within = a.within; later = a.later }

  -- a whole line that says nothing
  pub broken_false : TakesBroken room text old new f g → TakesFalse room old new f g
  broken_false a = record {
    bytes = text ++ (10 ∷ a.rest);
    taken = a.taken;
    is_none = inl (record { text = text; rest = a.rest; is = refl; is_line = a.is_line; says_nothing = a.says_nothing });
    within = a.within;
    later = a.later;
  }

  pub part_less : TakesPart room text old new f g → TakesLess room old new f g
  part_less a = record { bytes = text; taken = a.taken; is_short = inl (record { is_line = a.is_line; short = a.short }); within = a.within; later = a.later }

  pub full_over : TakesFull room text old new f g → TakesOver room old new f g
  full_over a = record { bytes = text; more = a.more; taken = a.taken; is_short = inl (record { is_line = a.is_line; short = a.short }); full = a.full; later = a.later }

pub no_memory : (r : Result Got Memory) (room room' : ℕ) (a c : Option (List ℕ)) (f h : ℕ) → IsErr r → TakesSome room a c f h → TakesCommand r room room' a c f h
no_memory (Ok x) room room' a c f h e s = let bad : ⊥ = cc in absurd bad
no_memory (Err x) room room' a c f h e s = s

pub some_taken : (room : ℕ) (a b : Option (List ℕ)) (xs : List ℕ) (f g : ℕ) → Taken a b xs → length xs ≤ room → f ≤ g → TakesSome room a b f g
some_taken room a b xs f g t n l = record { bytes = xs; taken = t; within = n; later = l }

pub rose_before : (f g h : ℕ) → f ≤ g → Rose g h → Rose f h
rose_before f g h l r = omega arith

pub put_says : (text name : List ℕ) (count : ℕ) → Some (put name count) ≡ line_of text → Says text (put name count)
put_says text name count e = says text (put name count) (sym e)
