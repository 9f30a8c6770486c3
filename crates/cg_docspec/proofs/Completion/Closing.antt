-- Texts that close what is open, with the trees of the documents that they complete.
use Rattle.std.proofs.Common.{◌≡◌, ℕ, suc, inl, List, [], ◌∷◌, ◌++◌, Option, None, refl, true, false, Bool, subst}
use lib.Utf8.{encodes}
use Rattle.cg_docspec.specs.Characters.{close_brace, close_bracket, colon, double_quote, line_feed, open_brace, single_quote}
use Rattle.cg_docspec.specs.Place.{Place, next_place, place_after}
use Rattle.cg_docspec.specs.Tree.{Member, Tree, list_of, object_of, string_of}
use Rattle.cg_docspec.specs.Gap.{no_gap}
use Rattle.cg_docspec.specs.Quoted.{closes}
use Rattle.cg_docspec.specs.Lines.{lines_end, lines_more, opened, three_quotes, undented, without_last_feed}
use Rattle.cg_docspec.specs.Document.{ends_key, leaf_value, no_comma, no_member, no_value, object, quoted}
use Rattle.cg_docspec.specs.Machine.Awaited.{Awaited}
use Rattle.cg_docspec.specs.Machine.Awaited as awaited
use Rattle.cg_docspec.specs.Machine.Frame.{Frame}
use Rattle.cg_docspec.specs.Machine.Frame as frame
use Rattle.cg_docspec.specs.Machine.MultiLine.{flushed, quotes}
use Rattle.cg_docspec.specs.Machine.Spot.{Spot}
use Rattle.cg_docspec.specs.Machine.Spot as spot
use Rattle.cg_docspec.proofs.Back.Comments.{gap_none}
use Rattle.cg_docspec.proofs.Completion.Fine.{FineAwaited, TakesItem, TakesKey, TakesValue}
use Rattle.cg_docspec.proofs.Completion.Growth.{unfound}
use Rattle.cg_docspec.proofs.Completion.Room.{Held, Kept, Low, LowFound, low_members, low_trees}
use Rattle.cg_docspec.proofs.Left.{AfterValue, AwaitedThen, KeyThen, LinesLeft, LinesThen, ListRest, ObjectRest, ValueThen, pending}
use Rattle.cg_docspec.proofs.LineTexts.{quote_lines}

-- what closes all that is open
abbrev pub closing : List Frame → List ℕ
closing [] = []
closing (frame.in_list at ts ∷ outer) = close_bracket ∷ closing outer
closing (frame.in_object at ms ∷ outer) = close_brace ∷ closing outer
closing (frame.in_member at ms k key_at ∷ outer) = close_brace ∷ closing outer

-- A text and the tree of the document that it completes. The tree has 64 levels at most, where they suffice for what is open.
abbrev pub Completing : List Frame → Option Tree → (Tree → List ℕ → Type 0) → Type 0
Completing stack found P = (m : List ℕ) × (T : Tree) × P T m × (Kept stack found → Low 64 T)

-- the same where the text is given
abbrev pub Completed : List Frame → (Tree → Type 0) → Type 0
Completed stack P = (T : Tree) × P T × (Kept stack None → Low 64 T)

-- behind the value t
pub close_value : (stack : List Frame) → TakesValue stack → (t : Tree) (at : Place) →
    (T : Tree) × AfterValue T stack t at (closing stack) × ((room : ℕ) → Held room stack → Low room t → Low 64 T)
close_value [] v t at = (t, (at, [], no_gap, (refl, refl)), λ room h l. subst (λ (n : ℕ). Low n t) h l)
close_value (frame.in_list list_at ts ∷ outer) v t at =
    let x = close_value outer v (list_of (ts ++ t ∷ [] ++ []) list_at) (next_place at close_bracket) in (
      x.0,
      (at, close_bracket ∷ closing outer, no_gap, (at, close_bracket ∷ closing outer, no_comma, ([], at, close_bracket, closing outer, no_value, refl, x.1))),
      λ room h l. x.2 (suc room) h.1 (low_trees room (ts ++ t ∷ []) [] (low_trees room ts (t ∷ []) h.0 (l, tt)) tt),
    )
close_value (frame.in_member object_at ms k key_at ∷ outer) v t at =
    let m : Member = record { key = k; key_place = key_at; value = t } in
    let x = close_value outer v (object_of (ms ++ m ∷ [] ++ []) object_at) (next_place at close_brace) in (
      x.0,
      (at, close_brace ∷ closing outer, no_gap, (at, close_brace ∷ closing outer, no_comma, ([], at, close_brace, closing outer, no_member, refl, x.1))),
      λ room h l. x.2 (suc room) h.1 (low_members room (ms ++ m ∷ []) [] (low_members room ms (m ∷ []) h.0 (l, tt)) tt),
    )
close_value (frame.in_object object_at ms ∷ outer) v t at = absurd v

-- where a value is awaited: an empty string
abbrev pub empty_string : List ℕ
empty_string = double_quote ∷ double_quote ∷ []

-- where a value is awaited
new_value : (stack : List Frame) → TakesValue stack → (at : Place) → Completed stack (λ T. ValueThen T stack at (empty_string ++ closing stack))
new_value stack v at =
    let t : Tree = string_of [] at in
    let there : Place = next_place (next_place at double_quote) double_quote in
    let x = close_value stack v t there in
    (x.0, (t, there, closing stack, leaf_value (quoted refl refl (closes refl)), x.1), λ k. x.2 k.room k.held tt)

-- where an item is awaited: nothing more
close_item : (stack : List Frame) (found : Option Tree) (b : Bool) → TakesItem stack → (at : Place) →
    Completed stack (λ T. AwaitedThen T stack found (awaited.item b) at (closing stack))
close_item [] found b v at = absurd v
close_item (frame.in_member object_at ms k key_at ∷ outer) found b v at = absurd v
close_item (frame.in_list list_at ts ∷ outer) found b v at =
    let x = close_value outer v (list_of (ts ++ []) list_at) (next_place at close_bracket) in
    (x.0, go x.0 b ([], at, close_bracket, closing outer, no_value, refl, x.1), λ k. x.2 (suc k.room) k.held.1 (low_trees k.room ts [] k.held.0 tt))
  where
    go : (T : Tree) (b : Bool) → ListRest (AfterValue T outer) list_at ts at (closing (frame.in_list list_at ts ∷ outer)) →
        AwaitedThen T (frame.in_list list_at ts ∷ outer) found (awaited.item b) at (closing (frame.in_list list_at ts ∷ outer))
    go T true r = (at, close_bracket ∷ closing outer, no_comma, r)
    go T false r = r
close_item (frame.in_object object_at ms ∷ outer) found b v at =
    let x = close_value outer v (object_of (ms ++ []) object_at) (next_place at close_brace) in
    (x.0, go x.0 b ([], at, close_brace, closing outer, no_member, refl, x.1), λ k. x.2 (suc k.room) k.held.1 (low_members k.room ms [] k.held.0 tt))
  where
    go : (T : Tree) (b : Bool) → ObjectRest (AfterValue T outer) object_at ms at (closing (frame.in_object object_at ms ∷ outer)) →
        AwaitedThen T (frame.in_object object_at ms ∷ outer) found (awaited.item b) at (closing (frame.in_object object_at ms ∷ outer))
    go T true r = (at, close_brace ∷ closing outer, no_comma, r)
    go T false r = r

-- the document's object
close_root : (stack : List Frame) (found : Option Tree) → stack ≡ [] → (at : Place) →
    Completing stack found (λ T m. AwaitedThen T stack found awaited.root at m)
close_root [] found v at =
    let t : Tree = object_of [] at in
    let there : Place = next_place (next_place at open_brace) close_brace in
    let x = close_value [] tt t there in
    (open_brace ∷ close_brace ∷ [], x.0, (t, there, [], object refl no_gap no_member refl, x.1), λ k. x.2 64 refl tt)
close_root (f ∷ stack) found v at = cc

-- behind a gap
pub close_awaited : (stack : List Frame) (found : Option Tree) (p : Awaited) → FineAwaited stack found p → (at : Place) →
    Completing stack found (λ T m. AwaitedThen T stack found p at m)
close_awaited stack found awaited.root v at = close_root stack found v at
close_awaited stack found (awaited.item b) v at = let x = close_item stack found b v at in (closing stack, x.0, x.1, λ k. x.2 (unfound stack found k))
close_awaited stack found awaited.colon v at =
    let x = new_value stack v (next_place at colon) in
    let m : List ℕ = empty_string ++ closing stack in
    (colon ∷ m, x.0, (colon, m, refl, refl, gap_none (ValueThen x.0 stack) (next_place at colon) m x.1), λ k. x.2 (unfound stack found k))
close_awaited stack found awaited.value v at = let x = new_value stack v at in (empty_string ++ closing stack, x.0, x.1, λ k. x.2 (unfound stack found k))
close_awaited stack found awaited.end v at = ([], v.0, (refl, v.1), λ k. subst LowFound v.1 k.low)

-- behind a key: its value
abbrev pub key_closing : List Frame → List ℕ
key_closing [] = []
key_closing (frame.in_list at ts ∷ outer) = []
key_closing (frame.in_member at ms k key_at ∷ outer) = []
key_closing (frame.in_object at ms ∷ outer) = colon ∷ (empty_string ++ close_brace ∷ closing outer)

-- behind a key: a colon and an empty string
pub close_key : (stack : List Frame) → TakesKey stack → (k : List ℕ) (key_at at : Place) →
    Completed stack (λ T. KeyThen T stack k key_at at (key_closing stack))
close_key [] v k key_at at = absurd v
close_key (frame.in_list list_at ts ∷ outer) v k key_at at = absurd v
close_key (frame.in_member object_at ms k1 key_at1 ∷ outer) v k key_at at = absurd v
close_key (frame.in_object object_at ms ∷ outer) v k key_at at =
    let inner : List Frame = frame.in_member object_at ms k key_at ∷ outer in
    let m : List ℕ = empty_string ++ close_brace ∷ closing outer in
    let x = new_value inner v (next_place at colon) in (
      x.0,
      gap_none (AwaitedThen x.0 inner None awaited.colon) at (colon ∷ m) (colon, m, refl, refl, gap_none (ValueThen x.0 inner) (next_place at colon) m x.1),
      λ h. x.2 (record { room = h.room; held = h.held; low = tt }),
    )

-- a text behind which the key's run has ended
pub key_ends : (stack : List Frame) → TakesKey stack → ends_key (key_closing stack) ≡ true
key_ends [] v = absurd v
key_ends (frame.in_list list_at ts ∷ outer) v = absurd v
key_ends (frame.in_member object_at ms k1 key_at1 ∷ outer) v = absurd v
key_ends (frame.in_object object_at ms ∷ outer) v = refl

-- in a multi-line string: a letter, and its end
abbrev letter_a : ℕ
letter_a = 97

-- what closes a multi-line string
abbrev line_closing : List Frame → List ℕ
line_closing stack = letter_a ∷ single_quote ∷ single_quote ∷ single_quote ∷ closing stack

-- behind some characters of it
close_lines : (stack : List Frame) → TakesValue stack → (u : List ℕ) (ended : Bool) (at0 : Place) (f : List ℕ → List ℕ) (at : Place) →
    Completed stack (λ T. LinesThen T stack u ended at0 f at (line_closing stack))
close_lines stack v u ended at0 f at =
    let t : Tree = string_of (u ++ encodes (without_last_feed (pending ended ++ f (letter_a ∷ [])))) at0 in
    let there : Place = place_after (next_place at letter_a) three_quotes in
    let x = close_value stack v t there in
    (x.0, (letter_a ∷ [], there, closing stack, lines_more refl (inl refl) (lines_end refl refl refl), x.1), λ k. x.2 k.room k.held tt)

-- at each spot of it
pub close_spot : (stack : List Frame) → TakesValue stack → (u : List ℕ) (ended : Bool) (k : ℕ) (p : Spot) (at0 at : Place) →
    Completing stack None (λ T m. LinesLeft T stack u ended k p at0 at m)
close_spot stack v u ended k spot.opening at0 at = let x = close_lines stack v u ended at0 (opened k) at in (line_closing stack, x.0, x.1, x.2)
close_spot stack v u ended k (spot.indent n) at0 at = let x = close_lines stack v u ended at0 (undented k n) at in (line_closing stack, x.0, x.1, x.2)
close_spot stack v u ended k spot.inside at0 at = let x = close_lines stack v u ended at0 (undented k 0) at in (line_closing stack, x.0, x.1, x.2)
close_spot stack v u ended k spot.opening_return at0 at =
    let x = close_lines stack v u ended at0 (undented k k) (next_place at line_feed) in (line_feed ∷ line_closing stack, x.0, (line_closing stack, refl, x.1), x.2)
close_spot stack v u ended k (spot.line_return n) at0 at =
    let x = close_lines stack v (flushed u ended ++ quotes n) true at0 (undented k k) (next_place at line_feed) in (line_feed ∷ line_closing stack, x.0, (line_closing stack, refl, x.1), x.2)
close_spot stack v u ended k (spot.quotes n) at0 at =
    let m : List ℕ = three_quotes ++ closing stack in
    let w : List ℕ = quotes n ++ letter_a ∷ [] in
    let there : Place = place_after (next_place at letter_a) three_quotes in
    let x = close_value stack v (string_of (u ++ encodes (without_last_feed (pending ended ++ undented k 0 w))) at0) there in
    (letter_a ∷ m, x.0, λ at1 a. (w, there, closing stack, quote_lines n letter_a m at1 at refl a (lines_more refl (inl refl) (lines_end refl refl refl)), x.1), λ h. x.2 h.room h.held tt)
