-- A completed register is the same register, and complete.
use Rattle.std.proofs.Common.{◌≡◌, ℕ, false, ◌==◌, List, [], ◌∷◌, map, length, Option, Some, None, option_map, option_and_then, unwrap_or, cond, bytes_eq, codes, refl, sym, ap, ◌∙◌}
use Rattle.serde_json.specs.Data.{Data, boolean, string}
use Rattle.serde_json.specs.Find.{get}
use Rattle.cg_desc.specs.declared.block.SwAccess.TheVariants as software_access
use Rattle.cg_desc.specs.declared.block.HwAccess.TheVariants as hardware_access
use Rattle.cg_hjson.specs.declared.tree.Tree.{Tree}
use Rattle.cg_hjson.specs.declared.tree.Member.{Member}
use Rattle.cg_keys.specs.Elements.{elements}
use Rattle.cg_keys.specs.Forms.{hardware, or_else, software}
use Rattle.cg_keys.specs.Lookups.{boolean_at, hardware_at, number_at, software_at, text_at}
use Rattle.cg_keys.specs.Values.{members_of}
use Rattle.cg_blkread.specs.Described.{register_desc}
use Rattle.cg_blkread.specs.Raw.{boolean_or_number, is_true, raw_register, register_reset, shared_of, text_or_empty}
use Rattle.cg_blkdone.specs.Full.{Pair, full_fields, hardware_word, list_of, number_of, pair, pair_if, register_pairs, reset_if, software_word}
use Rattle.cg_blkdone.specs.Places.{register_unplaced, start}
use Rattle.cg_blkdone.proofs.Bits.{number_back}
use Rattle.cg_blkdone.proofs.Completion.{HasAt, KeepsAt, boolean_has, boolean_kept, number_has, number_kept, text_has, text_kept}
use Rattle.cg_blkdone.proofs.FieldLists.{as_many_fields, fields_described, fields_of, fields_twice, listed_items}
use Rattle.cg_blkdone.proofs.CompletedFields.{IsWord, boolean_or_word, word_at}
use Rattle.cg_blkdone.proofs.Lookups.{elements_told, items_told_at}
use Rattle.cg_blkdone.proofs.Puts.{last_at, last_in_both, last_in_pair_if, or_else_none}
use Rattle.cg_blkdone.proofs.Told.{told}
use Rattle.cg_blkdone.proofs.Words.{hardware_back, software_back}

-- ---- what is put at a register's keys

-- the fields as they are completed
abbrev pub fields_full : List Member → List Data
fields_full ms = full_fields (shared_of ms) (register_reset ms) 1 (elements (codes "fields") ms)

-- all but the reset value
abbrev pub certain_pairs : List Member → List Pair
certain_pairs ms =
    pair (codes "swaccess") (string (software_word (shared_of ms).sw))
    ∷ pair (codes "hwaccess") (string (hardware_word (shared_of ms).hw))
    ∷ pair (codes "hwext") (boolean (is_true (codes "hwext") ms))
    ∷ pair (codes "hwqe") (boolean (is_true (codes "hwqe") ms))
    ∷ pair (codes "hwre") (boolean (is_true (codes "hwre") ms))
    ∷ pair (codes "shadowed") (boolean (is_true (codes "shadowed") ms))
    ∷ pair (codes "fields") (list_of (fields_full ms))
    ∷ []

-- the reset value, if this is its key
abbrev pub reset_at : List ℕ → List Member → Option Data
reset_at key ms = cond (bytes_eq key (codes "resval")) (option_map number_of (register_reset ms)) None

-- the last pair at a key: the reset value, or one of the others
pub last_in_register : (key : List ℕ) (ms : List Member) → last_at key (register_pairs ms) ≡ or_else (reset_at key ms) (last_at key (certain_pairs ms))
unfolding register_pairs
last_in_register key ms =
    last_in_both key (certain_pairs ms) (reset_if ms)
    ∙ ap (λ o. or_else o (last_at key (certain_pairs ms))) (last_in_pair_if key (codes "resval") (option_map number_of (register_reset ms)))

-- ---- the same registers but for places

-- u has at a register's keys what completing t puts there
pub record RegisterCompleted (t u : Tree) : Type 0 where
  pub name : KeepsAt (codes "name") t u
  pub regwen : KeepsAt (codes "regwen") t u
  pub swaccess : HasAt (codes "swaccess") u (string (software_word (shared_of (members_of t)).sw))
  pub hwaccess : HasAt (codes "hwaccess") u (string (hardware_word (shared_of (members_of t)).hw))
  pub hwext : HasAt (codes "hwext") u (boolean (is_true (codes "hwext") (members_of t)))
  pub hwqe : HasAt (codes "hwqe") u (boolean (is_true (codes "hwqe") (members_of t)))
  pub hwre : HasAt (codes "hwre") u (boolean (is_true (codes "hwre") (members_of t)))
  pub shadowed : HasAt (codes "shadowed") u (boolean (is_true (codes "shadowed") (members_of t)))
  pub fields : HasAt (codes "fields") u (list_of (fields_full (members_of t)))
  pub resval : get (codes "resval") (told u) ≡ or_else (option_map number_of (register_reset (members_of t))) (get (codes "resval") (told t))

-- by what stands at each key
pub register_completed : (t u : Tree) → (Listed : List ℕ → Type 0)
    → ((key : List ℕ) → Listed key → get key (told u) ≡ or_else (last_at key (register_pairs (members_of t))) (get key (told t)))
    → Listed (codes "name") → Listed (codes "regwen") → Listed (codes "swaccess") → Listed (codes "hwaccess") → Listed (codes "hwext")
    → Listed (codes "hwqe") → Listed (codes "hwre") → Listed (codes "shadowed") → Listed (codes "fields") → Listed (codes "resval") → RegisterCompleted t u
register_completed t u Listed stands name_listed regwen_listed swaccess_listed hwaccess_listed hwext_listed hwqe_listed hwre_listed shadowed_listed fields_listed resval_listed =
    let at : (key : List ℕ) → Listed key → get key (told u) ≡ or_else (or_else (reset_at key (members_of t)) (last_at key (certain_pairs (members_of t)))) (get key (told t)) =
    λ key listed. stands key listed ∙ ap (λ o. or_else o (get key (told t))) (last_in_register key (members_of t)) in
    record {
      name = at (codes "name") name_listed;
      regwen = at (codes "regwen") regwen_listed;
      swaccess = at (codes "swaccess") swaccess_listed;
      hwaccess = at (codes "hwaccess") hwaccess_listed;
      hwext = at (codes "hwext") hwext_listed;
      hwqe = at (codes "hwqe") hwqe_listed;
      hwre = at (codes "hwre") hwre_listed;
      shadowed = at (codes "shadowed") shadowed_listed;
      fields = at (codes "fields") fields_listed;
      resval = at (codes "resval") resval_listed ∙ ap (λ o. or_else o (get (codes "resval") (told t))) (or_else_none (option_map number_of (register_reset (members_of t))));
    }

-- what both give
pub record SameRegister (t u : Tree) : Type 0 where
  pub shared : shared_of (members_of u) ≡ shared_of (members_of t)
  pub reset : register_reset (members_of u) ≡ register_reset (members_of t)
  pub sole : (length (elements (codes "fields") (members_of u)) == 1) ≡ (length (elements (codes "fields") (members_of t)) == 1)
  pub described : register_unplaced (register_desc (raw_register u)) ≡ register_unplaced (register_desc (raw_register t))
  pub pairs : register_pairs (members_of u) ≡ register_pairs (members_of t)

-- a register's reset value has 32 bits
pub register_word : (ms : List Member) → IsWord (register_reset ms)
unfolding register_reset
register_word ms = boolean_or_word false (boolean_at (codes "resval") ms) (number_at 0 4294967295 (codes "resval") ms) (word_at (codes "resval") ms)

same_reset_by : (t u : Tree) (o : Option ℕ) → register_reset (members_of t) ≡ o
    → get (codes "resval") (told u) ≡ or_else (option_map number_of o) (get (codes "resval") (told t)) → register_reset (members_of u) ≡ register_reset (members_of t)
unfolding register_reset
same_reset_by t u None is there =
    λ i. boolean_or_number false (boolean_kept (codes "resval") t u there i) (number_kept 0 4294967295 (codes "resval") t u there i)
same_reset_by t u (Some v) is there =
    (λ i. boolean_or_number false (boolean_has (codes "resval") u (number_of v) there i) (number_has 0 4294967295 (codes "resval") u (number_of v) there i))
    ∙ number_back v (register_word (members_of t) v is) ∙ sym is

-- registers with the same members
pub register_by_members : (t u : Tree) → members_of u ≡ members_of t → SameRegister t u
unfolding register_desc raw_register
register_by_members t u same = record {
  shared = ap shared_of same;
  reset = ap register_reset same;
  sole = ap (λ ms. length (elements (codes "fields") ms) == 1) same;
  described = λ i. record {
    name = text_or_empty (text_at (codes "name") (same i));
    fields = fields_of (shared_of (same i)) (register_reset (same i)) 1 (elements (codes "fields") (same i));
    regwen = text_at (codes "regwen") (same i);
    regwen_at = start;
    hwext = is_true (codes "hwext") (same i);
    hwqe = is_true (codes "hwqe") (same i);
    hwre = is_true (codes "hwre") (same i);
    shadowed = is_true (codes "shadowed") (same i);
    at = start;
  };
  pairs = ap register_pairs same;
}

module _ (t u : Tree) (done : RegisterCompleted t u) where
  abbrev old : List Member
  old = members_of t

  abbrev new : List Member
  new = members_of u

  same_name : text_at (codes "name") new ≡ text_at (codes "name") old
  same_name = text_kept (codes "name") t u done.name

  fields_told : map told (elements (codes "fields") new) ≡ fields_full old
  fields_told = elements_told (codes "fields") u ∙ ap items_told_at done.fields ∙ listed_items (fields_full old)

  as_many : length (elements (codes "fields") new) ≡ length (elements (codes "fields") old)
  as_many = as_many_fields (shared_of old) (register_reset old) 1 (elements (codes "fields") old) (elements (codes "fields") new) fields_told

  same_sole : (length (elements (codes "fields") new) == 1) ≡ (length (elements (codes "fields") old) == 1)
  same_sole = ap (λ n. n == 1) as_many

  same_sw : (shared_of new).sw ≡ (shared_of old).sw
  unfolding shared_of software_at
  same_sw = ap (λ o. unwrap_or o software_access.Nothing)
      (ap (option_and_then software) (text_has (codes "swaccess") u (string (software_word (shared_of old).sw)) done.swaccess) ∙ software_back (shared_of old).sw)

  same_hw : (shared_of new).hw ≡ (shared_of old).hw
  unfolding shared_of hardware_at
  same_hw = ap (λ o. unwrap_or o hardware_access.Hro)
      (ap (option_and_then hardware) (text_has (codes "hwaccess") u (string (hardware_word (shared_of old).hw)) done.hwaccess) ∙ hardware_back (shared_of old).hw)

  same_shared : shared_of new ≡ shared_of old
  unfolding shared_of
  same_shared = λ i. record { name = text_or_empty (same_name i); sw = same_sw i; hw = same_hw i; sole = same_sole i }

  same_reset : register_reset new ≡ register_reset old
  same_reset = same_reset_by t u (register_reset old) refl done.resval

  same_flag : (key : List ℕ) → HasAt key u (boolean (is_true key old)) → is_true key new ≡ is_true key old
  same_flag key has = ap (λ o. unwrap_or o false) (boolean_has key u (boolean (is_true key old)) has)

  same_fields : fields_of (shared_of new) (register_reset new) 1 (elements (codes "fields") new)
      ≡ fields_of (shared_of old) (register_reset old) 1 (elements (codes "fields") old)
  same_fields =
      (λ i. fields_of (same_shared i) (same_reset i) 1 (elements (codes "fields") new))
      ∙ fields_described (shared_of old) (register_reset old) 1 (elements (codes "fields") old) (elements (codes "fields") new) (register_word old) fields_told

  same_full : fields_full new ≡ fields_full old
  same_full =
      (λ i. full_fields (same_shared i) (same_reset i) 1 (elements (codes "fields") new))
      ∙ fields_twice (shared_of old) (register_reset old) 1 (elements (codes "fields") old) (elements (codes "fields") new) (register_word old) fields_told

  same_described : register_unplaced (register_desc (raw_register u)) ≡ register_unplaced (register_desc (raw_register t))
  unfolding register_desc raw_register
  same_described = λ i. record {
    name = text_or_empty (same_name i);
    fields = same_fields i;
    regwen = text_kept (codes "regwen") t u done.regwen i;
    regwen_at = start;
    hwext = same_flag (codes "hwext") done.hwext i;
    hwqe = same_flag (codes "hwqe") done.hwqe i;
    hwre = same_flag (codes "hwre") done.hwre i;
    shadowed = same_flag (codes "shadowed") done.shadowed i;
    at = start;
  }

  same_pairs : register_pairs new ≡ register_pairs old
  unfolding register_pairs
  same_pairs = λ i.
      pair (codes "swaccess") (string (software_word (same_sw i)))
      ∷ pair (codes "hwaccess") (string (hardware_word (same_hw i)))
      ∷ pair (codes "hwext") (boolean (same_flag (codes "hwext") done.hwext i))
      ∷ pair (codes "hwqe") (boolean (same_flag (codes "hwqe") done.hwqe i))
      ∷ pair (codes "hwre") (boolean (same_flag (codes "hwre") done.hwre i))
      ∷ pair (codes "shadowed") (boolean (same_flag (codes "shadowed") done.shadowed i))
      ∷ pair (codes "fields") (list_of (same_full i))
      ∷ pair_if (codes "resval") (option_map number_of (same_reset i))

  -- a register with what completing puts there is the same
  pub same_register : SameRegister t u
  same_register = record { shared = same_shared; reset = same_reset; sole = same_sole; described = same_described; pairs = same_pairs }
