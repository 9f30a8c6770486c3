-- What the six wires of a row hold.
use Rattle.std.proofs.Common.{◌≡◌, ℕ, eqb, Bool, true, false, not, cond, ◌&&◌, List, [], ◌∷◌, ◌++◌, refl, ap, sym, ◌∙◌, Some}
use Rattle.std.proofs.lemmas.Bool.{eqb-true}
use Rattle.std.proofs.Math.Bool.{and-false}
use Rattle.cg_svspec.specs.Bits.{Bits}
use Rattle.cg_svspec.specs.Tree.{Expression, Entry}
use Rattle.cg_svspec.specs.Value.{Values, eval, AllHold}
use Rattle.cg_desc.specs.Target.{Target, register, word, error}
use Rattle.cg_desc.specs.BlockStep.{Access, AccessKind, idle, read, write, is_read, is_write, Fields, Hardware, allows, item_at, is_accepted, is_at, is_open, item_word, takes_read}
use Rattle.cg_desc.specs.declared.block.Item.{Item}
use Rattle.cg_desc.specs.declared.block.Item.TheVariants.{Reg, Window, SkipTo, Reserved}
use Rattle.cg_desc.specs.declared.block.LaidRow.{LaidRow}
use Rattle.cg_desc.specs.declared.block.LaidFace.{LaidFace}
use Rattle.cg_regspec.specs.NetNames.{hit, wbad, rbad, we, re, rd}
use Rattle.cg_regspec.specs.RegisterModule.{hit_of, write_refused, read_refused, gated, item_gate, item_word_text, row_entries}
use Rattle.cg_regspec.proofs.Wires.{CarryAccess}

-- no gate keeps writes from having an effect
abbrev pub item_is_open : LaidFace → Fields → Item → Bool
item_is_open face fields (Reg r) = is_open face fields r
item_is_open face fields (Window w) = true
item_is_open face fields (SkipTo to at) = true
item_is_open face fields (Reserved words at) = true

-- what the expressions of a row say of its item
pub record RowTells (v : Values) (face : LaidFace) (a : Access) (fields : Fields) (hardware : Hardware) (row : LaidRow) (here : Bool) : Type 0 where
  pub hits : eval v (hit_of row row.item) ≡ here ∷ []
  pub write_refusal : eval v (write_refused row.item) ≡ not (allows row.item write a.strobes) ∷ []
  pub read_refusal : eval v (read_refused row.item) ≡ not (allows row.item read a.strobes) ∷ []
  pub gate : (x : Expression) (b : Bool) → eval v x ≡ b ∷ [] → eval v (gated x (item_gate face.rows row.item)) ≡ (b && item_is_open face fields row.item) ∷ []
  pub word : eval v (item_word_text row.item) ≡ item_word fields hardware (Some row.item)

-- what the wires of row i hold; `before` is what is read where no row from i on is the target
pub record RowHolds (v : Values) (face : LaidFace) (target : Target) (a : Access) (fields : Fields) (hardware : Hardware) (i : ℕ) (before : Expression) (item : Item) : Type 0 where
  pub hits : v (hit i) ≡ is_at target i ∷ []
  pub write_refusal : v (wbad i) ≡ (is_at target i && not (allows item write a.strobes)) ∷ []
  pub read_refusal : v (rbad i) ≡ (is_at target i && not (allows item read a.strobes)) ∷ []
  pub writes : v (we i) ≡ (is_write a.kind && (is_accepted face target a && (is_at target i && item_is_open face fields item))) ∷ []
  pub reads : v (re i) ≡ takes_read face target a i ∷ []
  pub shows : v (rd i) ≡ cond (is_at target i) (item_word fields hardware (Some item)) (eval v before)

-- the row that the target is at
accepts_same : (rows : List LaidRow) (j i : ℕ) (item : Item) (kind : AccessKind) (strobes : Bits) → eqb j i ≡ true → item_at rows i ≡ Some item → item_at rows j ≡ Some item
accepts_same rows j i item kind strobes there is = rw (eqb-true j i there) is

-- an access is accepted at the row of its target as the row's item allows it
accepts : (face : LaidFace) (target : Target) (a : Access) (i : ℕ) (item : Item) → item_at face.rows i ≡ Some item → is_at target i ≡ true
    → is_accepted face target a ≡ allows item a.kind a.strobes
accepts face (register j) a i item is there = rw (accepts_same face.rows j i item a.kind a.strobes there is) refl
accepts face (word j index) a i item is there = rw (accepts_same face.rows j i item a.kind a.strobes there is) refl
accepts face error a i item is there = cc

-- a test turned twice
not_twice : (x free : Bool) → ((not (not x)) && free) ≡ (x && free)
not_twice true free = refl
not_twice false free = refl

-- the row's write wire against an accepted write
write_taken : (kind : AccessKind) (item : Item) (strobes : Bits) (here accepted free : Bool) → (here ≡ true → accepted ≡ allows item kind strobes)
    → (((is_write kind && here) && not (here && not (allows item write strobes))) && free) ≡ (is_write kind && (accepted && (here && free)))
write_taken idle item strobes here accepted free same = refl
write_taken read item strobes here accepted free same = refl
write_taken write item strobes false accepted free same = sym (and-false accepted)
write_taken write item strobes true accepted free same = rw (same refl) (not_twice (allows item write strobes) free)

-- and alone
not_back : (x : Bool) → not (not x) ≡ (x && true)
not_back true = refl
not_back false = refl

-- the row's read wire against an accepted read
read_taken : (kind : AccessKind) (item : Item) (strobes : Bits) (here accepted : Bool) → (here ≡ true → accepted ≡ allows item kind strobes)
    → ((is_read kind && here) && not (here && not (allows item read strobes))) ≡ (is_read kind && (accepted && here))
read_taken idle item strobes here accepted same = refl
read_taken write item strobes here accepted same = refl
read_taken read item strobes false accepted same = sym (and-false accepted)
read_taken read item strobes true accepted same = rw (same refl) (not_back (allows item read strobes))

-- a row's wires, from what its expressions say
pub row_holds : (v state next : Values) (face : LaidFace) (target : Target) (a : Access) (fields : Fields) (hardware : Hardware) (i : ℕ) (before : Expression) (row : LaidRow)
    (rest : List Entry) → CarryAccess v a → item_at face.rows i ≡ Some row.item → RowTells v face a fields hardware row (is_at target i)
    → AllHold v state next (row_entries face.rows i before row ++ rest) → RowHolds v face target a fields hardware i before row.item
row_holds v state next face target a fields hardware i before row rest carry there tells holds =
    let hits : v (hit i) ≡ is_at target i ∷ [] = holds.0 ∙ tells.hits in
    let bad_write : v (wbad i) ≡ (is_at target i && not (allows row.item write a.strobes)) ∷ [] = holds.1.0 ∙ rw (hits, tells.write_refusal) refl in
    let bad_read : v (rbad i) ≡ (is_at target i && not (allows row.item read a.strobes)) ∷ [] = holds.1.1.0 ∙ rw (hits, tells.read_refusal) refl in
    let same = accepts face target a i row.item there in
    record {
      hits = hits;
      write_refusal = bad_write;
      read_refusal = bad_read;
      writes = holds.1.1.1.0 ∙ (tells.gate _ ((is_write a.kind && is_at target i) && not (is_at target i && not (allows row.item write a.strobes))) (rw (carry.we, hits, bad_write) refl)
          ∙ ap (λ b. b ∷ []) (write_taken a.kind row.item a.strobes (is_at target i) (is_accepted face target a) (item_is_open face fields row.item) same));
      reads = holds.1.1.1.1.0 ∙ (rw (carry.re, hits, bad_read) refl
          ∙ ap (λ b. b ∷ []) (read_taken a.kind row.item a.strobes (is_at target i) (is_accepted face target a) same));
      shows = holds.1.1.1.1.1.0 ∙ rw (hits, tells.word) refl;
    }
