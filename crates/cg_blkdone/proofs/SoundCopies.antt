-- Completed registers, multiregs and windows break no rule.
use Rattle.std.proofs.Common.{◌≡◌, ℕ, suc, ◌+◌, ◌==◌, nat_lt, Bool, true, false, not, ◌&&◌, ◌||◌, cond, is_some, length, codes, List, [], ◌∷◌, ◌++◌, Option, Some, None, option_map, option_and_then, unwrap_or, refl, ap, ◌∙◌}
use Rattle.std.proofs.lemmas.Bool.{and_parts, eqb-true}
use Rattle.serde_json.specs.Data.{Data, boolean, string}
use Rattle.serde_json.specs.Find.{as_str, get}
use Rattle.cg_desc.specs.declared.block.SwAccess.{SwAccess}
use Rattle.cg_desc.specs.declared.block.SwAccess.TheVariants as software_access
use Rattle.cg_hjson.specs.declared.tree.Tree.{Tree}
use Rattle.cg_hjson.specs.declared.tree.Member.{Member}
use Rattle.cg_keys.specs.Elements.{elements}
use Rattle.cg_keys.specs.Forms.{is_one_of, or_else, window_access}
use Rattle.cg_keys.specs.Lookups.{number_at, text_at, window_access_at}
use Rattle.cg_keys.specs.Table.{Key}
use Rattle.cg_keys.specs.Values.{members_of}
use Rattle.cg_keys.specs.declared.forms.Form.TheVariants.{Boolean, Object, ParameterName, Word}
use Rattle.cg_keys.specs.declared.words.Words.TheVariants.{WindowAccess}
use Rattle.cg_blkread.specs.Raw.{Parameter, Shared, is_compact, is_true, number_or_parameter, register_reset, shared_of}
use Rattle.cg_blkread.specs.Tables.{copy_keys, register_keys, window_keys}
use Rattle.cg_blkread.specs.Values.{is_count_to}
use Rattle.cg_blkdone.specs.Full.{Pair, copy_pairs, full_fields, full_multireg, full_register, full_window, number_of, pair, pair_if, register_pairs, software_word, window_pairs, with_all}
use Rattle.cg_blkdone.proofs.Bits.{number_back}
use Rattle.cg_blkdone.proofs.CompletedFields.{IsWord, word_at}
use Rattle.cg_blkdone.proofs.Lookups.{boolean_told_in, found_in_completed, is_object, number_at_told, number_told_in, object_stays}
use Rattle.cg_blkdone.proofs.Puts.{last_at}
use Rattle.cg_blkdone.proofs.Registers.{certain_pairs, register_word}
use Rattle.cg_blkdone.proofs.SoundCompleted.{Puts, fits_first, hardware_fits, has_put, not_true_is, object_completed, only_form, software_fits, word_fits}
use Rattle.cg_blkdone.proofs.SoundEntries.{compact_good, fields_objects, fit_at_told, is_apart, is_not_true, is_true_told, multireg_good, register_good, window_good}
use Rattle.cg_blkdone.proofs.SoundNone.{not_false}
use Rattle.cg_blkdone.proofs.SoundRegisters.{RegisterPut, full_elements, register_keys_stay, register_values_stay, rows}
use Rattle.cg_blkdone.proofs.SoundTables.{elements_of, fits_one_told, object_good}
use Rattle.cg_blkdone.proofs.SoundValues.{count_told, multireg_values, register_values_good, text_told_at, window_values, word_told}
use Rattle.cg_blkdone.proofs.Told.{told}
use Rattle.cg_blkdone.proofs.Words.{AccessesWindow, AccessesWindowIf, window_by_default, window_words}

-- ---- registers

-- what is put into a register with this reset value
abbrev plain_pairs : List Member → Option ℕ → List Pair
plain_pairs ms o = certain_pairs ms ++ pair_if (codes "resval") (option_map number_of o)

plain_put : (ms : List Member) (o : Option ℕ) → IsWord o → RegisterPut (rows []) (plain_pairs ms o) ms o
plain_put ms None word = record {
  puts = (tt, (software_fits (shared_of ms).sw, (hardware_fits (shared_of ms).hw, (refl, (refl, (refl, (refl, (tt, (tt, (refl, tt))))))))));
  fields = refl;
  resval = refl;
  hwext = refl;
  shadowed = refl;
  async = refl;
  sync = refl;
  alias_target = refl;
}
plain_put ms (Some v) word = record {
  puts = (tt, (software_fits (shared_of ms).sw, (hardware_fits (shared_of ms).hw, (refl, (refl, (refl, (refl, (tt, (word_fits (Boolean ∷ []) v (word v refl), (refl, tt))))))))));
  fields = refl;
  resval = refl;
  hwext = refl;
  shadowed = refl;
  async = refl;
  sync = refl;
  alias_target = refl;
}

-- a register that is an object, and breaks no rule
pub record IsGoodRegister (ks : List Key) (d : Data) : Type 0 where
  pub keys : register_good ks d ≡ true
  pub values : register_values_good d ≡ true

-- a completed register breaks no rule
pub register_stays : (t : Tree) → is_object (told t) ≡ true → IsGoodRegister register_keys (told t) → IsGoodRegister register_keys (full_register t)
unfolding register_pairs
register_stays t is good =
    let put : RegisterPut (rows []) (register_pairs (members_of t)) (members_of t) (register_reset (members_of t)) =
    plain_put (members_of t) (register_reset (members_of t)) (register_word (members_of t)) in
    record {
      keys = register_keys_stay t [] (register_pairs (members_of t)) is good.keys good.values put;
      values = register_values_stay t [] (register_pairs (members_of t)) is good.keys good.values put;
    }

-- ---- numbers that may be a parameter's name

count_by : (params : List Parameter) (key : List ℕ) (d e : Data) (c : Option ℕ) → IsWord c → c ≡ word_told key d
    → get key e ≡ or_else (option_map number_of c) (get key d) → count_told params key e ≡ count_told params key d
count_by params key d e None word is there =
    ap (λ o. number_or_parameter params (option_and_then (number_told_in 0 4294967295) o) (option_and_then as_str o)) there
count_by params key d e (Some v) word is there =
    ap (λ o. number_or_parameter params (option_and_then (number_told_in 0 4294967295) o) (option_and_then as_str o)) there
    ∙ ap (λ o. number_or_parameter params o (as_str (number_of v))) (number_back v (word v refl))
    ∙ ap (λ o. number_or_parameter params o (text_told_at key d)) is

same_count : (params : List Parameter) (key : List ℕ) (ps : List Pair) (t : Tree) → is_object (told t) ≡ true
    → last_at key ps ≡ option_map number_of (number_at 0 4294967295 key (members_of t)) → count_told params key (with_all ps (told t)) ≡ count_told params key (told t)
same_count params key ps t is put =
    count_by params key (told t) (with_all ps (told t)) (number_at 0 4294967295 key (members_of t)) (word_at key (members_of t)) (number_at_told 0 4294967295 key t)
    (found_in_completed key ps (told t) is ∙ ap (λ o. or_else o (get key (told t))) put)

-- ---- multiregs

abbrev copies_pairs : List Member → Option ℕ → Option ℕ → List Pair
copies_pairs ms o c =
    plain_pairs ms o ++ (pair (codes "regwen_multi") (boolean (is_true (codes "regwen_multi") ms))
    ∷ pair (codes "compact") (boolean (is_compact ms)) ∷ pair_if (codes "count") (option_map number_of c))

-- what is put into a multireg
record CopiesPut (ps : List Pair) (ms : List Member) (o c : Option ℕ) : Type 0 where
  register : RegisterPut (rows copy_keys) ps ms o
  regwen : last_at (codes "regwen_multi") ps ≡ Some (boolean (is_true (codes "regwen_multi") ms))
  compact : last_at (codes "compact") ps ≡ Some (boolean (is_compact ms))
  count : last_at (codes "count") ps ≡ option_map number_of c

copies_put : (ms : List Member) (o c : Option ℕ) → IsWord o → IsWord c → CopiesPut (copies_pairs ms o c) ms o c
copies_put ms None None reset count = record {
  register = record {
    puts = (tt, (software_fits (shared_of ms).sw, (hardware_fits (shared_of ms).hw, (refl, (refl, (refl, (refl, (tt, (tt, (refl, (tt, (tt, (refl, (refl, tt))))))))))))));
    fields = refl;
    resval = refl;
    hwext = refl;
    shadowed = refl;
    async = refl;
    sync = refl;
    alias_target = refl;
  };
  regwen = refl;
  compact = refl;
  count = refl;
}
copies_put ms None (Some n) reset count = record {
  register = record {
    puts = (tt, (software_fits (shared_of ms).sw, (hardware_fits (shared_of ms).hw, (refl, (refl, (refl, (refl, (tt, (tt, (refl, (word_fits (ParameterName ∷ []) n (count n refl), (tt, (refl, (refl, tt))))))))))))));
    fields = refl;
    resval = refl;
    hwext = refl;
    shadowed = refl;
    async = refl;
    sync = refl;
    alias_target = refl;
  };
  regwen = refl;
  compact = refl;
  count = refl;
}
copies_put ms (Some v) None reset count = record {
  register = record {
    puts = (tt, (software_fits (shared_of ms).sw, (hardware_fits (shared_of ms).hw, (refl, (refl, (refl, (refl, (tt, (word_fits (Boolean ∷ []) v (reset v refl), (refl, (tt, (tt, (refl, (refl, tt))))))))))))));
    fields = refl;
    resval = refl;
    hwext = refl;
    shadowed = refl;
    async = refl;
    sync = refl;
    alias_target = refl;
  };
  regwen = refl;
  compact = refl;
  count = refl;
}
copies_put ms (Some v) (Some n) reset count = record {
  register = record {
    puts = (
      tt,
      (
        software_fits (shared_of ms).sw,
        (
          hardware_fits (shared_of ms).hw,
          (refl, (refl, (refl, (refl, (tt, (word_fits (Boolean ∷ []) v (reset v refl), (refl, (word_fits (ParameterName ∷ []) n (count n refl), (tt, (refl, (refl, tt))))))))))),
        ),
      ),
    );
    fields = refl;
    resval = refl;
    hwext = refl;
    shadowed = refl;
    async = refl;
    sync = refl;
    alias_target = refl;
  };
  regwen = refl;
  compact = refl;
  count = refl;
}

full_length : (shared : Shared) (rv : Option ℕ) (n : ℕ) (ts : List Tree) → length (full_fields shared rv n ts) ≡ length ts
unfolding full_fields
full_length shared rv n [] = refl
full_length shared rv n (t ∷ ts) = ap suc (full_length shared rv (n + 1) ts)

-- what is compacted is one field without gates of its own
compact_by : (x y gates : Bool) (n : ℕ) → n ≡ 1 → gates ≡ false → cond (x && (y && (nat_lt 1 n || gates))) false true ≡ true
compact_by x y gates n one none = (λ i. cond (x && (y && (nat_lt 1 (one i) || none i))) false true) ∙ never x y where
  never : (x y : Bool) → cond (x && (y && false)) false true ≡ true
  never true true = refl
  never true false = refl
  never false y = refl

module _ (params : List Parameter) (t : Tree) (keys : multireg_good (told t) ≡ true) (values : multireg_values params (told t) ≡ true) where
  abbrev ms : List Member
  ms = members_of t

  abbrev ps : List Pair
  ps = register_pairs ms ++ copy_pairs ms

  abbrev full : Data
  full = with_all ps (told t)

  is : is_object (told t) ≡ true
  is = only_form Object (told t) (and_parts (fits_one_told (Object ∷ []) (told t)) _ keys).0

  good : register_good (register_keys ++ copy_keys) (told t) ≡ true
  good = (and_parts (register_good (register_keys ++ copy_keys) (told t)) _ (and_parts (fits_one_told (Object ∷ []) (told t)) _ keys).1).0

  fine : register_values_good (told t) ≡ true
  fine = (and_parts (register_values_good (told t)) _ values).0

  put : CopiesPut ps ms (register_reset ms) (number_at 0 4294967295 (codes "count") ms)
  unfolding register_pairs copy_pairs
  put = copies_put ms (register_reset ms) (number_at 0 4294967295 (codes "count") ms) (register_word ms) (word_at (codes "count") ms)

  one_field : (length (elements (codes "fields") ms) == 1) ≡ true → length (elements_of (codes "fields") full) ≡ 1
  one_field sole =
      ap length (full_elements t copy_keys ps is good fine put.register)
      ∙ full_length (shared_of ms) (register_reset ms) 1 (elements (codes "fields") ms) ∙ eqb-true _ _ sole

  full_compact : is_not_true (codes "compact") full ≡ not (is_compact ms)
  full_compact =
      not_true_is (codes "compact") full
      ∙ ap (λ o. not (unwrap_or (option_and_then boolean_told_in o) false)) (has_put (codes "compact") ps (told t) (boolean (is_compact ms)) is put.compact)

  full_gates : is_true_told (codes "regwen_multi") full ≡ is_true (codes "regwen_multi") ms
  full_gates = ap (λ o. unwrap_or (option_and_then boolean_told_in o) false) (has_put (codes "regwen_multi") ps (told t) (boolean (is_true (codes "regwen_multi") ms)) is put.regwen)

  compact_stays_by : (b : Bool) → is_compact ms ≡ b → compact_good full ≡ true
  unfolding is_compact
  compact_stays_by false e =
      ap (λ c. cond (is_apart full) c true) (full_compact ∙ ap not e) ∙ either (is_apart full) where
        either : (c : Bool) → cond c true true ≡ true
        either true = refl
        either false = refl
  compact_stays_by true e =
      let first = and_parts (length (elements (codes "fields") ms) == 1) _ e in
      let second = and_parts (not (is_true (codes "regwen_multi") ms)) _ first.1 in
      ap (λ c. cond (is_apart full) c true) (full_compact ∙ ap not e)
      ∙ compact_by (fields_objects full) (fit_at_told (Boolean ∷ []) (codes "regwen_multi") full) (is_true_told (codes "regwen_multi") full)
      (length (elements_of (codes "fields") full)) (one_field first.0)
      (full_gates ∙ not_false (is_true (codes "regwen_multi") ms) second.0)

  -- a completed multireg breaks no rule on keys
  pub multireg_keys_stay : multireg_good (full_multireg t) ≡ true
  multireg_keys_stay = λ i.
      fits_first Object [] full (object_stays ps (told t) is) i
      && (register_keys_stay t copy_keys ps is good fine put.register i && compact_stays_by (is_compact ms) refl i)

  -- and none on values
  pub multireg_values_stay : multireg_values params (full_multireg t) ≡ true
  multireg_values_stay = λ i.
      register_values_stay t copy_keys ps is good fine put.register i
      && (ap (is_count_to 4096) (same_count params (codes "count") ps t is put.count) ∙ (and_parts (register_values_good (told t)) _ values).1) i

-- ---- windows

abbrev window_with : List Member → Option ℕ → List Pair
window_with ms c =
    pair (codes "byte-write") (boolean (is_true (codes "byte-write") ms))
    ∷ pair (codes "swaccess") (string (software_word (unwrap_or (window_access_at (codes "swaccess") ms) software_access.Rw)))
    ∷ pair_if (codes "items") (option_map number_of c)

access_or_default : (k : Option SwAccess) → AccessesWindowIf k → AccessesWindow (unwrap_or k software_access.Rw)
access_or_default None known = window_by_default
access_or_default (Some k) known = known

access_of : (s : Option (List ℕ)) → AccessesWindow (unwrap_or (option_and_then window_access s) software_access.Rw)
access_of None = window_by_default
access_of (Some s) = access_or_default (window_access s) (window_words s)

access_fits : (ms : List Member) → fits_one_told (Word WindowAccess ∷ []) (string (software_word (unwrap_or (window_access_at (codes "swaccess") ms) software_access.Rw))) ≡ true
unfolding is_one_of window_access_at
access_fits ms = fits_first (Word WindowAccess) [] (string (software_word (unwrap_or (window_access_at (codes "swaccess") ms) software_access.Rw))) (ap is_some (access_of (text_at (codes "swaccess") ms)))

window_puts : (ms : List Member) (c : Option ℕ) → IsWord c → Puts window_keys (window_with ms c)
window_puts ms None word = (tt, (tt, (refl, (access_fits ms, tt))))
window_puts ms (Some n) word = (tt, (word_fits (ParameterName ∷ []) n (word n refl), (refl, (access_fits ms, tt))))

items_put : (members : List Member) (c : Option ℕ) → last_at (codes "items") (window_with members c) ≡ option_map number_of c
items_put members None = refl
items_put members (Some n) = refl

-- a completed window breaks no rule on keys
pub window_keys_stay : (t : Tree) → window_good (told t) ≡ true → window_good (full_window t) ≡ true
unfolding window_pairs
window_keys_stay t good =
    let both = and_parts (fits_one_told (Object ∷ []) (told t)) (object_good window_keys (told t)) good in
    let is : is_object (told t) ≡ true = only_form Object (told t) both.0 in
    λ i. fits_first Object [] (full_window t) (object_stays (window_pairs (members_of t)) (told t) is) i
    && object_completed window_keys (window_pairs (members_of t)) (told t) is
    (window_puts (members_of t) (number_at 0 4294967295 (codes "items") (members_of t)) (word_at (codes "items") (members_of t))) both.1 i

-- and none on values
pub window_values_stay : (params : List Parameter) (t : Tree) → window_good (told t) ≡ true → window_values params (told t) ≡ true → window_values params (full_window t) ≡ true
unfolding window_pairs
window_values_stay params t good values =
    let is : is_object (told t) ≡ true = only_form Object (told t) (and_parts (fits_one_told (Object ∷ []) (told t)) (object_good window_keys (told t)) good).0 in
    ap (is_count_to 4194304) (same_count params (codes "items") (window_pairs (members_of t)) t is (items_put (members_of t) (number_at 0 4294967295 (codes "items") (members_of t)))) ∙ values
