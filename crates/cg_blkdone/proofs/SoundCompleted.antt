-- A table that holds of an object holds of its completion, where each value that is put has a form of its key.
use Rattle.std.proofs.Common.{◌≡◌, ℕ, ◌≤◌, Bool, true, false, not, ◌&&◌, ◌||◌, cond, is_some, List, [], ◌∷◌, Option, Some, None, option_and_then, unwrap_or, refl, sym, ap, ◌∙◌}
use Rattle.std.proofs.lemmas.Bool.{and_parts}
use Rattle.std.specs.Option.{option_map_or}
use Rattle.serde_json.specs.Data.{Data, string}
use Rattle.serde_json.specs.Find.{get}
use Rattle.cg_desc.specs.declared.block.SwAccess.{SwAccess}
use Rattle.cg_desc.specs.declared.block.HwAccess.{HwAccess}
use Rattle.cg_keys.specs.Forms.{is_name, is_one_of, name_limit, or_else}
use Rattle.cg_keys.specs.Table.{Key}
use Rattle.cg_keys.specs.declared.forms.Form.{Form}
use Rattle.cg_keys.specs.declared.forms.Form.TheVariants.{Name, Word}
use Rattle.cg_keys.specs.declared.words.Words.TheVariants.{Hardware, Software}
use Rattle.cg_blkread.specs.Tables.{word_number}
use Rattle.cg_blkdone.specs.Full.{Pair, hardware_word, number_of, software_word, with_all}
use Rattle.cg_blkdone.proofs.Bits.{number_back}
use Rattle.cg_blkdone.proofs.Lookups.{boolean_told_in, found_in_completed, is_object}
use Rattle.cg_blkdone.proofs.Puts.{last_at}
use Rattle.cg_blkdone.proofs.SoundEntries.{is_not_true, is_true_told}
use Rattle.cg_blkdone.proofs.SoundTables.{fits_one_told, fits_told, key_good, object_good, table_good}
use Rattle.cg_blkdone.proofs.Words.{hardware_back, software_back}

-- ---- what stands in a completed object

-- a key at which nothing is put keeps what it had
pub keeps : (key : List ℕ) (ps : List Pair) (d : Data) → is_object d ≡ true → last_at key ps ≡ None → get key (with_all ps d) ≡ get key d
keeps key ps d is none = found_in_completed key ps d is ∙ ap (λ o. or_else o (get key d)) none

-- a key at which a value is put has it
pub has_put : (key : List ℕ) (ps : List Pair) (d v : Data) → is_object d ≡ true → last_at key ps ≡ Some v → get key (with_all ps d) ≡ Some v
has_put key ps d v is some = found_in_completed key ps d is ∙ ap (λ o. or_else o (get key d)) some

-- ---- tables

-- a value that is put at the key has one of its forms
abbrev pub PutFits : Key → Option Data → Type 0
PutFits k None = Unit {0}
PutFits k (Some v) = fits_one_told k.forms v ≡ true

-- so do all
abbrev pub Puts : List Key → List Pair → Type 0
Puts [] ps = Unit {0}
Puts (k ∷ ks) ps = PutFits k (last_at k.key ps) × Puts ks ps

put_or_kept : (k : Key) (o p : Option Data) → PutFits k o → key_good k p ≡ true → key_good k (or_else o p) ≡ true
put_or_kept k None p fit good = good
put_or_kept k (Some v) p fit good = fit

-- a table that holds still holds
pub table_stays : (ks : List Key) (ps : List Pair) (d : Data) → is_object d ≡ true → Puts ks ps → table_good ks d ≡ true → table_good ks (with_all ps d) ≡ true
table_stays [] ps d is puts good = refl
table_stays (k ∷ ks) ps d is puts good =
    let both = and_parts (key_good k (get k.key d)) (table_good ks d) good in
    let here : key_good k (get k.key (with_all ps d)) ≡ true =
    ap (key_good k) (found_in_completed k.key ps d is) ∙ put_or_kept k (last_at k.key ps) (get k.key d) puts.0 both.0 in
    λ i. here i && table_stays ks ps d is puts.1 both.1 i

-- what a table says of an object
pub table_of : (ks : List Key) (d : Data) → is_object d ≡ true → object_good ks d ≡ true → table_good ks d ≡ true
table_of ks d is good = ap (λ b. cond b (table_good ks d) true) (sym is) ∙ good

-- a table that holds is not broken
pub object_of : (ks : List Key) (d : Data) → table_good ks d ≡ true → object_good ks d ≡ true
object_of ks d good = ap (λ b. cond (is_object d) b true) good ∙ either (is_object d) where
  either : (b : Bool) → cond b true true ≡ true
  either true = refl
  either false = refl

-- a completed object breaks no row where the object breaks none
pub object_completed : (ks : List Key) (ps : List Pair) (d : Data) → is_object d ≡ true → Puts ks ps → object_good ks d ≡ true → object_good ks (with_all ps d) ≡ true
object_completed ks ps d is puts good = object_of ks (with_all ps d) (table_stays ks ps d is puts (table_of ks d is good))

-- ---- the forms of what is put

-- the first form fits, or another
pub fits_first : (f : Form) (fs : List Form) (d : Data) → fits_told f d ≡ true → fits_one_told (f ∷ fs) d ≡ true
fits_first f fs d fit = ap (λ b. b || fits_one_told fs d) fit

-- the word of a kind has its form
pub software_fits : (k : SwAccess) → fits_one_told (Word Software ∷ []) (string (software_word k)) ≡ true
unfolding is_one_of
software_fits k = fits_first (Word Software) [] (string (software_word k)) (ap is_some (software_back k))

-- so has a kind of hardware
pub hardware_fits : (k : HwAccess) → fits_one_told (Word Hardware ∷ []) (string (hardware_word k)) ≡ true
unfolding is_one_of
hardware_fits k = fits_first (Word Hardware) [] (string (hardware_word k)) (ap is_some (hardware_back k))

-- a number of 32 bits has its form
pub word_fits : (fs : List Form) (v : ℕ) → v ≤ 4294967295 → fits_one_told (word_number ∷ fs) (number_of v) ≡ true
word_fits fs v low = fits_first word_number fs (number_of v) (ap is_some (number_back v low))

-- a name has its form
pub name_fits : (s : List ℕ) → is_name name_limit s ≡ true → fits_one_told (Name ∷ []) (string s) ≡ true
name_fits s is = fits_first Name [] (string s) is

-- a value with a form of a list of one has that form
pub only_form : (f : Form) (d : Data) → fits_one_told (f ∷ []) d ≡ true → fits_told f d ≡ true
only_form f d h = by (fits_told f d) h where
  by : (b : Bool) → (b || false) ≡ true → b ≡ true
  by true h = refl
  by false h = absurd cc

-- ---- what is true is there

-- what stands at a key is not true exactly where it is not read as true
pub not_true_is : (key : List ℕ) (d : Data) → is_not_true key d ≡ not (is_true_told key d)
not_true_is key d = by (get key d) where
  by_truth : (b : Bool) → cond b false true ≡ not b
  by_truth true = refl
  by_truth false = refl

  by : (o : Option Data) → cond (unwrap_or (option_and_then boolean_told_in o) false) (option_map_or (λ (e : Data). false) o true) true
      ≡ not (unwrap_or (option_and_then boolean_told_in o) false)
  by None = refl
  by (Some e) = by_truth (unwrap_or (boolean_told_in e) false)
