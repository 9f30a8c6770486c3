-- What is written stands for as many rows and fields as are counted.
use Rattle.std.proofs.Common.{ℕ, ◌≡◌, ◌+◌, ◌-◌, ◌*◌, ◌/◌, ◌<◌, ◌≤◌, min, zero, suc, List, [], ◌∷◌, ◌++◌, map, length, length-append, sum_by, refl, sym, ap, ◌∙◌, arith}
use Rattle.std.proofs.Math.Nat.{add-mul, suc-mul, zero-mul, lt-mul-div-succ, mul_comm}
use Rattle.std.proofs.lemmas.List.{length-map}
use Rattle.std.proofs.lemmas.List.Sums.{sum_by-append, sum_by-cons}
use Rattle.std.proofs.lemmas.List.FromFn.{sum_by-map-range_with_len_more}
use Rattle.std.specs.List.{flat_map, range_with_len}
use Rattle.cg_svspec.specs.Printable.{AllOf}
use Rattle.cg_desc.specs.declared.block.RegDesc.{RegDesc}
use Rattle.cg_desc.specs.declared.block.MultiDesc.{MultiDesc}
use Rattle.cg_desc.specs.declared.block.Written.{Written}
use Rattle.cg_desc.specs.declared.block.Written.TheVariants as written
use Rattle.cg_desc.specs.declared.block.Item.{Item}
use Rattle.cg_desc.specs.declared.block.Item.TheVariants.{Reg}
use Rattle.cg_desc.specs.declared.block.FaceDesc.{FaceDesc}
use Rattle.cg_desc.specs.declared.block.FaceItems.{FaceItems}
use Rattle.cg_desc.specs.Items.{copies_in_word, copies_per_word, copy_fields, entry_items, items_of_faces, multireg_word, word_count, word_fields}
use Rattle.cg_desc.specs.Valid.{IsValidEntry, IsValidInterface, IsValidMultireg}
use Rattle.cg_expand.specs.Violations.{fields_in, rows_in}
use Rattle.cg_expand.specs.Parts.Sizes.{entry_fields, entry_rows, face_fields, face_rows}
use Rattle.cg_expand.proofs.Multiregs.{per_word}

-- ---- copies

-- each register is a row
each_row : (word : ℕ → RegDesc) (a n : ℕ) → sum_by rows_in (map (λ j. Reg (word j)) (range_with_len a n)) ≡ n
each_row word a zero = refl
each_row word a (suc n) =
    let rest : sum_by rows_in (map (λ j. Reg (word j)) (range_with_len (a + 1) n)) ≡ n = each_row word (a + 1) n in
    let first : sum_by rows_in (map (λ j. Reg (word j)) (range_with_len a (suc n))) ≡ 1 + sum_by rows_in (map (λ j. Reg (word j)) (range_with_len (a + 1) n)) =
    sum_by-cons rows_in (Reg (word a)) (map (λ j. Reg (word j)) (range_with_len (a + 1) n)) in
    omega arith

-- so many copies have so many times the register's fields
copies_length : (m : MultiDesc) (number : ℕ → ℕ) (a n : ℕ)
    → length (flat_map (λ place. copy_fields m (number place) place) (range_with_len a n)) ≡ n * length m.reg.fields
unfolding copy_fields
copies_length m number a zero = sym (zero-mul (length m.reg.fields))
copies_length m number a (suc n) =
    let rest : length (flat_map (λ place. copy_fields m (number place) place) (range_with_len (a + 1) n)) ≡ n * length m.reg.fields = copies_length m number (a + 1) n in
    let first : length (copy_fields m (number a) a) ≡ length m.reg.fields = length-map m.reg.fields _ in
    let both : length (flat_map (λ place. copy_fields m (number place) place) (range_with_len a (suc n)))
    ≡ length (copy_fields m (number a) a) + length (flat_map (λ place. copy_fields m (number place) place) (range_with_len (a + 1) n)) =
    length-append (copy_fields m (number a) a) (flat_map (λ place. copy_fields m (number place) place) (range_with_len (a + 1) n)) in
    omega (arith, suc-mul n (length m.reg.fields))

word_length : (m : MultiDesc) (j : ℕ) → length (word_fields m j) ≡ copies_in_word m j * length m.reg.fields
unfolding word_fields
word_length m j = copies_length m (λ place. j * copies_per_word m + place) 0 (copies_in_word m j)

-- the first words have so many copies
first_words : (m : MultiDesc) (n : ℕ)
    → sum_by fields_in (map (λ j. Reg (multireg_word m j)) (range_with_len 0 n)) ≡ min m.count (n * copies_per_word m) * length m.reg.fields
unfolding multireg_word copies_in_word
first_words m zero = let none : min m.count (0 * copies_per_word m) ≡ 0 = omega (arith, zero-mul (copies_per_word m)) in sym (ap (λ k. k * length m.reg.fields) none ∙ zero-mul (length m.reg.fields))
first_words m (suc n) =
    let per = copies_per_word m in
    let before : ℕ = min m.count (n * per) in
    let here : ℕ = copies_in_word m n in
    let more : before + here ≡ min m.count (suc n * per) = omega (arith, suc-mul n per) in
    let next : suc n ≡ n + 1 = omega arith in
    ap (λ k. sum_by fields_in (map (λ j. Reg (multireg_word m j)) (range_with_len 0 k))) next
    ∙ sum_by-map-range_with_len_more fields_in (λ j. Reg (multireg_word m j)) 0 n n (omega arith)
    ∙ (λ i. first_words m n i + word_length m n i)
    ∙ sym (add-mul before here (length m.reg.fields))
    ∙ ap (λ k. k * length m.reg.fields) more

-- the words have room for all copies
all_copies : (count per : ℕ) → 0 < per → count ≤ (count + (per - 1)) / per * per
all_copies count per some =
    let above : count + (per - 1) < per * ((count + (per - 1)) / per + 1) = lt-mul-div-succ (count + (per - 1)) some in
    omega (arith, mul_comm per ((count + (per - 1)) / per + 1), add-mul ((count + (per - 1)) / per) 1 per)

words_fields : (m : MultiDesc) → IsValidMultireg m
    → sum_by fields_in (map (λ j. Reg (multireg_word m j)) (range_with_len 0 (word_count m))) ≡ m.count * length m.reg.fields
unfolding word_count
words_fields m valid =
    let all : m.count ≤ word_count m * copies_per_word m = all_copies m.count (copies_per_word m) (per_word m valid).some in
    let count : min m.count (word_count m * copies_per_word m) ≡ m.count = omega arith in
    first_words m (word_count m) ∙ ap (λ k. k * length m.reg.fields) count

-- ---- entries and interfaces

entry_is_rows : (e : Written) → sum_by rows_in (entry_items e) ≡ entry_rows e
entry_is_rows (written.Reg r) = refl
entry_is_rows (written.Multi m) = each_row (multireg_word m) 0 (word_count m)
entry_is_rows (written.Window w) = refl
entry_is_rows (written.SkipTo to at) = refl
entry_is_rows (written.Reserved words at) = refl

entry_is_fields : (e : Written) → IsValidEntry e → sum_by fields_in (entry_items e) ≡ entry_fields e
entry_is_fields (written.Reg r) valid = omega arith
entry_is_fields (written.Multi m) valid = words_fields m valid
entry_is_fields (written.Window w) valid = refl
entry_is_fields (written.SkipTo to at) valid = refl
entry_is_fields (written.Reserved words at) valid = refl

entries_are_rows : (es : List Written) → sum_by rows_in (flat_map entry_items es) ≡ sum_by entry_rows es
entries_are_rows [] = refl
entries_are_rows (e ∷ es) =
    sum_by-append rows_in (entry_items e) (flat_map entry_items es)
    ∙ (λ i. entry_is_rows e i + entries_are_rows es i)
    ∙ sym (sum_by-cons entry_rows e es)

entries_are_fields : (es : List Written) → AllOf IsValidEntry es → sum_by fields_in (flat_map entry_items es) ≡ sum_by entry_fields es
entries_are_fields [] valid = refl
entries_are_fields (e ∷ es) valid =
    sum_by-append fields_in (entry_items e) (flat_map entry_items es)
    ∙ (λ i. entry_is_fields e valid.0 i + entries_are_fields es valid.1 i)
    ∙ sym (sum_by-cons entry_fields e es)

-- the rows of an interface with these in front, and of the others
rows_step : (front : List Item) (f : FaceDesc) (fs : List FaceDesc)
    → sum_by (λ face. sum_by rows_in face.items) (items_of_faces front (f ∷ fs))
    ≡ sum_by rows_in front + (face_rows f + sum_by (λ face. sum_by rows_in face.items) (items_of_faces [] fs))
unfolding items_of_faces
rows_step front f fs =
    let own : sum_by rows_in (front ++ flat_map entry_items f.entries) ≡ sum_by rows_in front + face_rows f =
    sum_by-append rows_in front (flat_map entry_items f.entries) ∙ ap (λ n. sum_by rows_in front + n) (entries_are_rows f.entries) in
    let all : sum_by (λ face. sum_by rows_in face.items) (items_of_faces front (f ∷ fs))
    ≡ sum_by rows_in (front ++ flat_map entry_items f.entries) + sum_by (λ face. sum_by rows_in face.items) (items_of_faces [] fs) =
    sum_by-cons (λ (face : FaceItems). sum_by rows_in face.items) (record { items = front ++ flat_map entry_items f.entries }) (items_of_faces [] fs) in
    omega arith

rows_behind : (fs : List FaceDesc) → sum_by (λ face. sum_by rows_in face.items) (items_of_faces [] fs) ≡ sum_by face_rows fs
unfolding items_of_faces
rows_behind [] = refl
rows_behind (f ∷ fs) = omega (arith, rows_step [] f fs, rows_behind fs, sum_by-cons face_rows f fs)

-- the rows of interfaces, of which the first has these in front
pub rows_of_faces : (front : List Item) (f : FaceDesc) (fs : List FaceDesc)
    → sum_by (λ face. sum_by rows_in face.items) (items_of_faces front (f ∷ fs)) ≡ sum_by rows_in front + sum_by face_rows (f ∷ fs)
rows_of_faces front f fs = omega (arith, rows_step front f fs, rows_behind fs, sum_by-cons face_rows f fs)

-- their fields
fields_step : (front : List Item) (f : FaceDesc) (fs : List FaceDesc) → IsValidInterface f
    → sum_by (λ face. sum_by fields_in face.items) (items_of_faces front (f ∷ fs))
    ≡ sum_by fields_in front + (face_fields f + sum_by (λ face. sum_by fields_in face.items) (items_of_faces [] fs))
unfolding items_of_faces
fields_step front f fs valid =
    let own : sum_by fields_in (front ++ flat_map entry_items f.entries) ≡ sum_by fields_in front + face_fields f =
    sum_by-append fields_in front (flat_map entry_items f.entries) ∙ ap (λ n. sum_by fields_in front + n) (entries_are_fields f.entries valid.entries) in
    let all : sum_by (λ face. sum_by fields_in face.items) (items_of_faces front (f ∷ fs))
    ≡ sum_by fields_in (front ++ flat_map entry_items f.entries) + sum_by (λ face. sum_by fields_in face.items) (items_of_faces [] fs) =
    sum_by-cons (λ (face : FaceItems). sum_by fields_in face.items) (record { items = front ++ flat_map entry_items f.entries }) (items_of_faces [] fs) in
    omega arith

fields_behind : (fs : List FaceDesc) → AllOf IsValidInterface fs → sum_by (λ face. sum_by fields_in face.items) (items_of_faces [] fs) ≡ sum_by face_fields fs
unfolding items_of_faces
fields_behind [] valid = refl
fields_behind (f ∷ fs) valid = omega (arith, fields_step [] f fs valid.0, fields_behind fs valid.1, sum_by-cons face_fields f fs)

pub fields_of_faces : (front : List Item) (f : FaceDesc) (fs : List FaceDesc) → AllOf IsValidInterface (f ∷ fs)
    → sum_by (λ face. sum_by fields_in face.items) (items_of_faces front (f ∷ fs)) ≡ sum_by fields_in front + sum_by face_fields (f ∷ fs)
fields_of_faces front f fs valid = omega (arith, fields_step front f fs valid.0, fields_behind fs valid.1, sum_by-cons face_fields f fs)
