-- The answer: the error and the data that are read.
use Rattle.std.proofs.Common.{◌≡◌, ℕ, ◌+◌, ◌-◌, ◌≤◌, eqb, Bool, true, false, not, cond, ◌&&◌, ◌||◌, List, [], ◌∷◌, refl, ap, sym, ◌∙◌, arith, Option, Some, None}
use Rattle.std.proofs.lemmas.Bool.{eqb-true, eqb-false, ne_eqb, eq-eqb}
use Rattle.std.proofs.Math.Bool.{and-true, or-false}
use Rattle.cg_svspec.specs.Bits.{Bits, any_bit, ones}
use Rattle.cg_svspec.specs.Tree.{Expression, net, Expressions, none, more}
use Rattle.cg_svspec.specs.Value.{Values, eval, eval_parts, AllHold}
use Rattle.cg_desc.specs.Target.{Target, register, word, error}
use Rattle.cg_desc.specs.BlockStep.{Access, AccessKind, idle, read, write, is_read, is_write, Fields, Hardware, allows, allows_at, item_at, is_accepted, is_error, is_at, item_word, word_at}
use Rattle.cg_desc.specs.declared.block.Item.{Item}
use Rattle.cg_desc.specs.declared.block.LaidRow.{LaidRow}
use Rattle.cg_desc.specs.declared.block.LaidFace.{LaidFace}
use Rattle.cg_regspec.specs.NetNames.{hit, wbad, rbad, rd, hit_any, wbad_any, rbad_any, reg_error, reg_rdata}
use Rattle.cg_regspec.specs.RegisterModule.{highest_first, last_rd, answer_entries, all_ones}
use Rattle.cg_svspec.proofs.BitLists.{any_bit-append, any_bit-one, bits-ones}
use Rattle.cg_regspec.proofs.Wires.{CarryAccess}
use Rattle.cg_regspec.proofs.AllRows.{RowsHold}

-- ---- the item that the target is at

-- the item of its row, if it is at one
abbrev pub target_item : Target → List LaidRow → Option Item
target_item (register j) rows = item_at rows j
target_item (word j index) rows = item_at rows j
target_item error rows = None

-- a test of it, which fails where there is none
abbrev test_at : (Item → Bool) → Option Item → Bool
test_at test None = false
test_at test (Some item) = test item

-- an access is accepted as that item allows it
pub accepted_at : (face : LaidFace) (target : Target) (a : Access) → is_accepted face target a ≡ allows_at (target_item target face.rows) a.kind a.strobes
accepted_at face (register j) a = refl
accepted_at face (word j index) a = refl
accepted_at face error a = refl

-- and shows its word
word_there : (face : LaidFace) (target : Target) (fields : Fields) (hardware : Hardware) → item_word fields hardware (target_item target face.rows) ≡ word_at face fields hardware target
word_there face (register j) fields hardware = refl
word_there face (word j index) fields hardware = refl
word_there face error fields hardware = refl

-- ---- an or over all rows

-- the test holds of the item of some row that is meant
abbrev some_row : (Item → Bool) → (ℕ → Bool) → ℕ → List LaidRow → Bool
some_row test at i [] = false
some_row test at i (row ∷ rows) = (at i && test row.item) || some_row test at (i + 1) rows

-- the rows' nets of this name hold it
abbrev NetsTest : Values → (ℕ → List ℕ) → (Item → Bool) → (ℕ → Bool) → ℕ → List LaidRow → Type 0
NetsTest v name test at i [] = Unit {0}
NetsTest v name test at i (row ∷ rows) = (v (name i) ≡ (at i && test row.item) ∷ []) × NetsTest v name test at (i + 1) rows

-- the or of three in another order
or_turn : (x y z : Bool) → (y || (z || x)) ≡ ((x || y) || z)
or_turn true true z = refl
or_turn true false true = refl
or_turn true false false = refl
or_turn false true z = refl
or_turn false false true = refl
or_turn false false false = refl

-- the or of the rows' nets from number i on, over what stands below
highest_is : (v : Values) (name : ℕ → List ℕ) (test : Item → Bool) (at : ℕ → Bool) (i : ℕ) (below : Expressions) (rows : List LaidRow) → NetsTest v name test at i rows
    → any_bit (eval_parts v (highest_first name i below rows)) ≡ (some_row test at i rows || any_bit (eval_parts v below))
highest_is v name test at i below [] nets = refl
highest_is v name test at i below (row ∷ rows) nets =
    highest_is v name test at (i + 1) (more (net (name i)) below) rows nets.1
    ∙ rw (any_bit-append, nets.0, any_bit-one) (or_turn (at i && test row.item) (some_row test at (i + 1) rows) (any_bit (eval_parts v below)))

-- no row is meant
none_meant : (test : Item → Bool) (at : ℕ → Bool) (i : ℕ) (rows : List LaidRow) → ((k : ℕ) → i ≤ k → at k ≡ false) → some_row test at i rows ≡ false
none_meant test at i [] clear = refl
none_meant test at i (row ∷ rows) clear = rw (clear i (omega arith)) (none_meant test at (i + 1) rows (λ k above. clear k (omega arith)))

-- the row of number j is meant: by whether it is the first of these
one_meant_by : (test : Item → Bool) (j i : ℕ) (row : LaidRow) (rows : List LaidRow) → i ≤ j → (b : Bool) → eqb j i ≡ b
    → (i + 1 ≤ j → some_row test (eqb j) (i + 1) rows ≡ test_at test (item_at rows (j - (i + 1))))
    → ((b && test row.item) || some_row test (eqb j) (i + 1) rows) ≡ test_at test (item_at (row ∷ rows) (j - i))
one_meant_by test j i row rows above true is later =
    let same : j ≡ i = eqb-true j i is in
    let zero : eqb (j - i) 0 ≡ true = eq-eqb (j - i) 0 (omega arith) in
    rw (none_meant test (eqb j) (i + 1) rows (λ k over. ne_eqb j k (λ e. omega arith)), zero) (or-false (test row.item))
one_meant_by test j i row rows above false is later =
    let past : i + 1 ≤ j = grind (arith, eqb-false j i is) in
    let some : eqb (j - i) 0 ≡ false = ne_eqb (j - i) 0 (λ e. omega arith) in
    let back : j - i - 1 ≡ j - (i + 1) = omega arith in
    rw (some, back) (later past)

-- among the rows from number i on
one_meant : (test : Item → Bool) (j i : ℕ) (rows : List LaidRow) → i ≤ j → some_row test (eqb j) i rows ≡ test_at test (item_at rows (j - i))
one_meant test j i [] above = refl
one_meant test j i (row ∷ rows) above = one_meant_by test j i row rows above (eqb j i) refl (λ past. one_meant test j (i + 1) rows past)

-- the place of a row among all rows
from_zero : (k : ℕ) → k - 0 ≡ k
from_zero k = omega arith

-- the target's row is meant, or none
target_meant : (test : Item → Bool) (target : Target) (rows : List LaidRow) → some_row test (is_at target) 0 rows ≡ test_at test (target_item target rows)
target_meant test (register j) rows = one_meant test j 0 rows (omega arith) ∙ ap (λ k. test_at test (item_at rows k)) (from_zero j)
target_meant test (word j index) rows = one_meant test j 0 rows (omega arith) ∙ ap (λ k. test_at test (item_at rows k)) (from_zero j)
target_meant test error rows = none_meant test (λ k. false) 0 rows (λ k above. refl)

-- the or of the rows' nets is the test of the target's item
any_row : (v : Values) (name : ℕ → List ℕ) (test : Item → Bool) (target : Target) (rows : List LaidRow) → NetsTest v name test (is_at target) 0 rows
    → any_bit (eval_parts v (highest_first name 0 none rows)) ≡ test_at test (target_item target rows)
any_row v name test target rows nets = highest_is v name test (is_at target) 0 none rows nets ∙ (or-false (some_row test (is_at target) 0 rows) ∙ target_meant test target rows)

-- ---- the chain of reads

-- what an item shows
abbrev Shown : Type 0
Shown = Item → Bits

-- what the last row reads, where x is read before row i
abbrev read_through : Shown → (ℕ → Bool) → ℕ → List LaidRow → Bits → Bits
read_through shown at i [] x = x
read_through shown at i (row ∷ rows) x = read_through shown at (i + 1) rows (cond (at i) (shown row.item) x)

-- what the item shows, or x where there is none
abbrev shown_or : Shown → Bits → Option Item → Bits
shown_or shown x None = x
shown_or shown x (Some item) = shown item

-- the last row's net reads through all rows
last_is : (v : Values) (face : LaidFace) (target : Target) (a : Access) (fields : Fields) (hardware : Hardware) (i : ℕ) (before : Expression) (rows : List LaidRow)
    → RowsHold v face target a fields hardware i before rows
    → eval v (last_rd i before rows) ≡ read_through (λ item. item_word fields hardware (Some item)) (is_at target) i rows (eval v before)
last_is v face target a fields hardware i before [] has = refl
last_is v face target a fields hardware i before (row ∷ rows) has =
    last_is v face target a fields hardware (i + 1) (net (rd i)) rows has.1
    ∙ ap (read_through (λ item. item_word fields hardware (Some item)) (is_at target) (i + 1) rows) has.0.shows

-- no row is read
none_read : (shown : Shown) (at : ℕ → Bool) (i : ℕ) (rows : List LaidRow) (x : Bits) → ((k : ℕ) → i ≤ k → at k ≡ false) → read_through shown at i rows x ≡ x
none_read shown at i [] x clear = refl
none_read shown at i (row ∷ rows) x clear = rw (clear i (omega arith)) (none_read shown at (i + 1) rows x (λ k above. clear k (omega arith)))

-- the row of number j is read: by whether it is the first of these
one_read_by : (shown : Shown) (j i : ℕ) (row : LaidRow) (rows : List LaidRow) (x : Bits) → i ≤ j → (b : Bool) → eqb j i ≡ b
    → (i + 1 ≤ j → read_through shown (eqb j) (i + 1) rows x ≡ shown_or shown x (item_at rows (j - (i + 1))))
    → read_through shown (eqb j) (i + 1) rows (cond b (shown row.item) x) ≡ shown_or shown x (item_at (row ∷ rows) (j - i))
one_read_by shown j i row rows x above true is later =
    let same : j ≡ i = eqb-true j i is in
    let zero : eqb (j - i) 0 ≡ true = eq-eqb (j - i) 0 (omega arith) in
    rw zero (none_read shown (eqb j) (i + 1) rows (shown row.item) (λ k over. ne_eqb j k (λ e. omega arith)))
one_read_by shown j i row rows x above false is later =
    let past : i + 1 ≤ j = grind (arith, eqb-false j i is) in
    let some : eqb (j - i) 0 ≡ false = ne_eqb (j - i) 0 (λ e. omega arith) in
    let back : j - i - 1 ≡ j - (i + 1) = omega arith in
    rw (some, back) (later past)

-- among the rows from number i on
one_read : (shown : Shown) (j i : ℕ) (rows : List LaidRow) (x : Bits) → i ≤ j → read_through shown (eqb j) i rows x ≡ shown_or shown x (item_at rows (j - i))
one_read shown j i [] x above = refl
one_read shown j i (row ∷ rows) x above = one_read_by shown j i row rows x above (eqb j i) refl (λ past. one_read shown j (i + 1) rows x past)

-- the target's row is read, or none
target_read : (shown : Shown) (target : Target) (rows : List LaidRow) (x : Bits) → read_through shown (is_at target) 0 rows x ≡ shown_or shown x (target_item target rows)
target_read shown (register j) rows x = one_read shown j 0 rows x (omega arith) ∙ ap (λ k. shown_or shown x (item_at rows k)) (from_zero j)
target_read shown (word j index) rows x = one_read shown j 0 rows x (omega arith) ∙ ap (λ k. shown_or shown x (item_at rows k)) (from_zero j)
target_read shown error rows x = none_read shown (λ k. false) 0 rows x (λ k above. refl)

-- where there is none, all ones are read
word_of_item : (fields : Fields) (hardware : Hardware) (o : Option Item) → shown_or (λ item. item_word fields hardware (Some item)) (ones 32) o ≡ item_word fields hardware o
word_of_item fields hardware None = refl
word_of_item fields hardware (Some item) = refl

-- ---- the error and the data

-- the wires `hit_i` tell which row is meant
hits_test : (v : Values) (face : LaidFace) (target : Target) (a : Access) (fields : Fields) (hardware : Hardware) (i : ℕ) (before : Expression) (rows : List LaidRow)
    → RowsHold v face target a fields hardware i before rows → NetsTest v hit (λ item. true) (is_at target) i rows
hits_test v face target a fields hardware i before [] has = tt
hits_test v face target a fields hardware i before (row ∷ rows) has =
    (has.0.hits ∙ ap (λ b. b ∷ []) (sym (and-true (is_at target i))), hits_test v face target a fields hardware (i + 1) (net (rd i)) rows has.1)

-- the wires `wbad_i` test that its item refuses writes
writes_test : (v : Values) (face : LaidFace) (target : Target) (a : Access) (fields : Fields) (hardware : Hardware) (i : ℕ) (before : Expression) (rows : List LaidRow)
    → RowsHold v face target a fields hardware i before rows → NetsTest v wbad (λ item. not (allows item write a.strobes)) (is_at target) i rows
writes_test v face target a fields hardware i before [] has = tt
writes_test v face target a fields hardware i before (row ∷ rows) has =
    (has.0.write_refusal, writes_test v face target a fields hardware (i + 1) (net (rd i)) rows has.1)

-- the wires `rbad_i` test that its item refuses reads
reads_test : (v : Values) (face : LaidFace) (target : Target) (a : Access) (fields : Fields) (hardware : Hardware) (i : ℕ) (before : Expression) (rows : List LaidRow)
    → RowsHold v face target a fields hardware i before rows → NetsTest v rbad (λ item. not (allows item read a.strobes)) (is_at target) i rows
reads_test v face target a fields hardware i before [] has = tt
reads_test v face target a fields hardware i before (row ∷ rows) has =
    (has.0.read_refusal, reads_test v face target a fields hardware (i + 1) (net (rd i)) rows has.1)

-- the expression of the error, against what an error is
error_of : (kind : AccessKind) (o : Option Item) (strobes : Bits)
    → ((is_write kind && (not (test_at (λ item. true) o) || test_at (λ item. not (allows item write strobes)) o))
    || (is_read kind && (not (test_at (λ item. true) o) || test_at (λ item. not (allows item read strobes)) o)))
    ≡ ((is_write kind || is_read kind) && not (allows_at o kind strobes))
error_of idle o strobes = refl
error_of write None strobes = refl
error_of write (Some item) strobes = or-false (not (allows item write strobes))
error_of read None strobes = refl
error_of read (Some item) strobes = refl

-- the answer of the module
pub record Answers (v : Values) (face : LaidFace) (target : Target) (a : Access) (fields : Fields) (hardware : Hardware) : Type 0 where
  pub faults : v reg_error ≡ is_error face target a ∷ []
  pub shows : v reg_rdata ≡ cond (is_error face target a) (ones 32) (word_at face fields hardware target)

-- the answer, from the wires of all rows
pub answers : (v state next : Values) (face : LaidFace) (target : Target) (a : Access) (fields : Fields) (hardware : Hardware) → CarryAccess v a
    → RowsHold v face target a fields hardware 0 all_ones face.rows → AllHold v state next (answer_entries face.rows) → Answers v face target a fields hardware
answers v state next face target a fields hardware carry has holds =
    let o = target_item target face.rows in
    let hits : v hit_any ≡ test_at (λ item. true) o ∷ [] =
    holds.0 ∙ ap (λ b. b ∷ []) (any_row v hit (λ item. true) target face.rows (hits_test v face target a fields hardware 0 all_ones face.rows has)) in
    let bad_writes : v wbad_any ≡ test_at (λ item. not (allows item write a.strobes)) o ∷ [] =
    holds.1.0 ∙ ap (λ b. b ∷ []) (any_row v wbad (λ item. not (allows item write a.strobes)) target face.rows (writes_test v face target a fields hardware 0 all_ones face.rows has)) in
    let bad_reads : v rbad_any ≡ test_at (λ item. not (allows item read a.strobes)) o ∷ [] =
    holds.1.1.0 ∙ ap (λ b. b ∷ []) (any_row v rbad (λ item. not (allows item read a.strobes)) target face.rows (reads_test v face target a fields hardware 0 all_ones face.rows has)) in
    let fault : v reg_error ≡ is_error face target a ∷ [] =
    holds.1.1.1.0 ∙ (rw (carry.we, carry.re, hits, bad_writes, bad_reads) refl ∙ ap (λ b. b ∷ []) (error_of a.kind o a.strobes ∙ rw (accepted_at face target a) refl)) in
    let last : eval v (last_rd 0 all_ones face.rows) ≡ word_at face fields hardware target =
    last_is v face target a fields hardware 0 all_ones face.rows has
    ∙ (target_read (λ item. item_word fields hardware (Some item)) target face.rows (eval v all_ones)
    ∙ (ap (λ x. shown_or (λ item. item_word fields hardware (Some item)) x o) (bits-ones 32) ∙ (word_of_item fields hardware o ∙ word_there face target fields hardware))) in
    record {
      faults = fault;
      shows = holds.1.1.1.1.0 ∙ rw (fault, last, bits-ones 32) refl;
    }
