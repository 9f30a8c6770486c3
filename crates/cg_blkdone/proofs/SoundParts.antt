-- Completed interrupts, parameters and pins break no rule.
use Rattle.std.proofs.Common.{◌≡◌, ℕ, ◌≤◌, Bool, true, false, ◌&&◌, ◌||◌, nat_le, is_some, codes, List, [], ◌∷◌, map, Option, Some, None, option_map, option_and_then, unwrap_or, arith, refl, ap, ◌∙◌}
use Rattle.std.specs.Prelude.{if◌then◌else◌}
use Rattle.std.proofs.lemmas.Bool.{and_parts}
use Rattle.std.proofs.lemmas.Bool.Decides.{nat_tests}
use Rattle.std.specs.List.{list_all}
use Rattle.std.specs.Option.{option_map_or}
use Rattle.serde_json.specs.Data.{Data, string}
use Rattle.serde_json.specs.Find.{as_str, get}
use Rattle.cg_base.specs.Number.Scan.{number_of as number_in_text}
use Rattle.cg_hjson.specs.declared.tree.Tree.{Tree}
use Rattle.cg_keys.specs.Forms.{if_within, is_one_of, natural, or_else}
use Rattle.cg_keys.specs.Lookups.{number_at, text_at}
use Rattle.cg_keys.specs.Table.{Key, may, needs}
use Rattle.cg_keys.specs.Values.{members_of}
use Rattle.cg_keys.specs.declared.forms.Form.{Form}
use Rattle.cg_keys.specs.declared.forms.Form.TheVariants.{Name, Number, Text, Word}
use Rattle.cg_keys.specs.declared.words.Words.TheVariants.{InterruptType}
use Rattle.cg_blkread.specs.Tables.{alert_keys, interrupt_keys, parameter_keys, pin_keys}
use Rattle.cg_blkdone.specs.Full.{Pair, full_alert, full_interrupt, full_parameter, full_pin, number_of, pair, pair_if, with_all}
use Rattle.cg_blkdone.proofs.CompletedFields.{IsWord, word_at}
use Rattle.cg_blkdone.proofs.Lookups.{is_object, number_at_told, number_told_in, object_stays, text_at_told}
use Rattle.cg_blkdone.proofs.SoundCompleted.{Puts, fits_first, object_completed, only_form, table_of, word_fits}
use Rattle.cg_blkdone.proofs.SoundFields.{may_fit}
use Rattle.cg_blkdone.proofs.SoundTables.{fits_one_told, fits_told, key_good, object_good}
use Rattle.cg_blkdone.proofs.Told.{integer_in, told}

-- ---- what is put

only_form_if : (f : Form) (o : Option Data) → option_map_or (λ e. fits_told f e || false) o true ≡ true → option_map_or (fits_told f) o true ≡ true
only_form_if f None h = refl
only_form_if f (Some e) h = only_form f e h

-- a value at a key with one form, if there is one
row_form : (key : List ℕ) (f : Form) (o : Option Data) → key_good (may key (f ∷ [])) o ≡ true → option_map_or (fits_told f) o true ≡ true
row_form key f o h = only_form_if f o (may_fit (may key (f ∷ [])) o h)

within_is : (b : Bool) (n : ℕ) → is_some (if b then Some n else None) ≡ true → b ≡ true
within_is true n h = refl
within_is false n h = absurd cc

abbrev numeral : Data → Option ℕ
numeral e = or_else (option_and_then natural (integer_in e)) (option_and_then number_in_text (as_str e))

width_by : (most : ℕ) → 1 ≤ most → most ≤ 4294967295 → (o : Option ℕ) → is_some (option_and_then (if_within 1 most) o) ≡ true
    → is_some (if_within 1 most (unwrap_or (option_and_then (if_within 0 4294967295) o) 1)) ≡ true
width_by most least low None h = absurd cc
width_by most least low (Some n) h =
    let both = and_parts (nat_le 1 n) (nat_le n most) (within_is (nat_le 1 n && nat_le n most) n h) in
    let from : nat_le 0 n ≡ true = grind (arith, nat_tests) in
    let upper : n ≤ most = grind (arith, nat_tests, both.1) in
    let small : nat_le n 4294967295 ≡ true = grind (arith, nat_tests) in
    ap (λ b. is_some (if_within 1 most (unwrap_or (if b then Some n else None) 1))) (λ i. from i && small i) ∙ h

width_default : (most : ℕ) → 1 ≤ most → is_some (if_within 1 most 1) ≡ true
width_default most least =
    let passes : nat_le 1 most ≡ true = grind (arith, nat_tests) in ap (λ (b : Bool). is_some {T = ℕ} (if b then Some 1 else None)) passes

-- a width, or 1 by default
width_fits : (most : ℕ) → 1 ≤ most → most ≤ 4294967295 → (o : Option Data) → option_map_or (fits_told (Number 1 most)) o true ≡ true
    → fits_told (Number 1 most) (number_of (unwrap_or (option_and_then (number_told_in 0 4294967295) o) 1)) ≡ true
width_fits most least low None h = width_default most least
width_fits most least low (Some e) h = width_by most least low (numeral e) h

width_put : (most : ℕ) → 1 ≤ most → most ≤ 4294967295 → (t : Tree) → key_good (may (codes "width") (Number 1 most ∷ [])) (get (codes "width") (told t)) ≡ true
    → fits_one_told (Number 1 most ∷ []) (number_of (unwrap_or (number_at 0 4294967295 (codes "width") (members_of t)) 1)) ≡ true
width_put most least low t row =
    fits_first (Number 1 most) [] (number_of (unwrap_or (number_at 0 4294967295 (codes "width") (members_of t)) 1))
    (ap (λ o. fits_told (Number 1 most) (number_of (unwrap_or o 1))) (number_at_told 0 4294967295 (codes "width") t)
    ∙ width_fits most least low (get (codes "width") (told t)) (row_form (codes "width") (Number 1 most) (get (codes "width") (told t)) row))

type_by : (o : Option Data) → option_map_or (fits_told (Word InterruptType)) o true ≡ true → is_one_of InterruptType (unwrap_or (option_and_then as_str o) (codes "event")) ≡ true
unfolding is_one_of
type_by None h = refl
type_by (Some e) h = by (as_str e) h where
  by : (s : Option (List ℕ)) → option_map_or (is_one_of InterruptType) s false ≡ true → is_one_of InterruptType (unwrap_or s (codes "event")) ≡ true
  by None h = absurd cc
  by (Some s) h = h

type_put : (t : Tree) → key_good (may (codes "type") (Word InterruptType ∷ [])) (get (codes "type") (told t)) ≡ true
    → fits_one_told (Word InterruptType ∷ []) (string (unwrap_or (text_at (codes "type") (members_of t)) (codes "event"))) ≡ true
type_put t row =
    fits_first (Word InterruptType) [] (string (unwrap_or (text_at (codes "type") (members_of t)) (codes "event")))
    (ap (λ o. is_one_of InterruptType (unwrap_or o (codes "event"))) (text_at_told (codes "type") t)
    ∙ type_by (get (codes "type") (told t)) (row_form (codes "type") (Word InterruptType) (get (codes "type") (told t)) row))

-- ---- each part

-- an object that breaks no row of a table
abbrev pub IsGood : List Key → Data → Type 0
IsGood ks d = (is_object d ≡ true) × (object_good ks d ≡ true)

-- a completed part is good where the part is
abbrev pub Stays : List Key → (Tree → Data) → Type 0
Stays ks full = (t : Tree) → IsGood ks (told t) → IsGood ks (full t)

-- what is completed with values of the right forms is good
pub completed : (ks : List Key) (ps : List Pair) (t : Tree) → IsGood ks (told t) → Puts ks ps → IsGood ks (with_all ps (told t))
completed ks ps t good puts = (object_stays ps (told t) good.0, object_completed ks ps (told t) good.0 puts good.1)

-- interrupts
pub interrupt_stays : Stays interrupt_keys full_interrupt
unfolding full_interrupt
interrupt_stays t good =
    let table = and_parts (key_good (needs (codes "name") (Name ∷ [])) (get (codes "name") (told t))) _ (table_of interrupt_keys (told t) good.0 good.1) in
    let second = and_parts (key_good (may (codes "type") (Word InterruptType ∷ [])) (get (codes "type") (told t))) _ table.1 in
    let third = and_parts (key_good (may (codes "width") (Number 1 32 ∷ [])) (get (codes "width") (told t))) true second.1 in
    completed interrupt_keys
    (pair (codes "type") (string (unwrap_or (text_at (codes "type") (members_of t)) (codes "event")))
    ∷ pair (codes "width") (number_of (unwrap_or (number_at 0 4294967295 (codes "width") (members_of t)) 1)) ∷ []) t good
    (tt, (type_put t second.0, (width_put 32 (omega arith) (omega arith) t third.0, tt)))

-- pins
pub pin_stays : Stays pin_keys full_pin
unfolding full_pin
pin_stays t good =
    let table = and_parts (key_good (needs (codes "name") (Name ∷ [])) (get (codes "name") (told t))) _ (table_of pin_keys (told t) good.0 good.1) in
    let second = and_parts (key_good (may (codes "width") (Number 1 64 ∷ [])) (get (codes "width") (told t))) true table.1 in
    completed pin_keys (pair (codes "width") (number_of (unwrap_or (number_at 0 4294967295 (codes "width") (members_of t)) 1)) ∷ []) t good
    (tt, (width_put 64 (omega arith) (omega arith) t second.0, tt))

default_puts : (o : Option ℕ) → IsWord o → Puts parameter_keys (pair_if (codes "default") (option_map number_of o))
default_puts None word = (tt, (tt, tt))
default_puts (Some n) word = (tt, (word_fits (Text ∷ []) n (word n refl), tt))

-- parameters
pub parameter_stays : Stays parameter_keys full_parameter
unfolding full_parameter
parameter_stays t good =
    completed parameter_keys (pair_if (codes "default") (option_map number_of (number_at 0 4294967295 (codes "default") (members_of t)))) t good
    (default_puts (number_at 0 4294967295 (codes "default") (members_of t)) (word_at (codes "default") (members_of t)))

-- alerts, which stay as they are
pub alert_stays : Stays alert_keys full_alert
unfolding full_alert
alert_stays t good = good

-- ---- lists of parts

-- objects that break no row of a table
abbrev pub all_good : List Key → List Data → Bool
all_good ks ds = list_all is_object ds && list_all (object_good ks) ds

record BothPass (ks : List Key) (ds : List Data) : Type 0 where
  first : list_all is_object ds ≡ true
  second : list_all (object_good ks) ds ≡ true

both_stay : (ks : List Key) (full : Tree → Data) → Stays ks full → (ts : List Tree) → BothPass ks (map told ts) → BothPass ks (map full ts)
both_stay ks full step [] both = record { first = refl; second = refl }
both_stay ks full step (t ∷ ts) both =
    let a = and_parts (is_object (told t)) (list_all is_object (map told ts)) both.first in
    let b = and_parts (object_good ks (told t)) (list_all (object_good ks) (map told ts)) both.second in
    let here = step t (a.0, b.0) in
    let rest = both_stay ks full step ts (record { first = a.1; second = b.1 }) in
    record { first = λ i. here.0 i && rest.first i; second = λ i. here.1 i && rest.second i }

-- completed parts are good where the parts are
pub parts_stay : (ks : List Key) (full : Tree → Data) → Stays ks full → (ts : List Tree) → all_good ks (map told ts) ≡ true → all_good ks (map full ts) ≡ true
parts_stay ks full step ts good =
    let parts = and_parts (list_all is_object (map told ts)) (list_all (object_good ks) (map told ts)) good in
    let both = both_stay ks full step ts (record { first = parts.0; second = parts.1 }) in
    λ i. both.first i && both.second i
