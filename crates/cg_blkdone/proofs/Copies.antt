-- Completed registers, multiregs and windows are the same, and complete.
use Rattle.std.proofs.Common.{◌≡◌, ℕ, Bool, true, false, not, ◌&&◌, ◌==◌, List, [], ◌∷◌, ◌++◌, length, Option, Some, None, option_map, option_and_then, unwrap_or, cond, bytes_eq, codes, refl, sym, ap, ◌∙◌}
use Rattle.serde_json.specs.Data.{Data, boolean, string}
use Rattle.serde_json.specs.Find.{get}
use Rattle.cg_desc.specs.declared.block.SwAccess.{SwAccess}
use Rattle.cg_desc.specs.declared.block.SwAccess.TheVariants as software_access
use Rattle.cg_hjson.specs.declared.tree.Tree.{Tree}
use Rattle.cg_hjson.specs.declared.tree.Member.{Member}
use Rattle.cg_keys.specs.Elements.{elements}
use Rattle.cg_keys.specs.Forms.{or_else, window_access}
use Rattle.cg_keys.specs.Lookups.{boolean_at, number_at, text_at, window_access_at}
use Rattle.cg_keys.specs.Values.{members_of}
use Rattle.cg_blkread.specs.Raw.{Parameter, count_at, is_compact, is_true, number_or_parameter}
use Rattle.cg_blkdone.specs.Full.{Pair, copy_pairs, full_multireg, full_register, full_window, number_if, number_of, pair, pair_if, register_pairs, software_word, window_pairs}
use Rattle.cg_blkdone.proofs.Bits.{number_back}
use Rattle.cg_blkdone.proofs.Completion.{Completed, boolean_has, by_object, completed_twice, number_has, number_kept, stands_at, text_has, text_kept}
use Rattle.cg_blkdone.proofs.CompletedFields.{word_at}
use Rattle.cg_blkdone.proofs.Lookups.{is_object}
use Rattle.cg_blkdone.proofs.Puts.{last_at, last_in_both, last_in_pair_if, or_else_none}
use Rattle.cg_blkdone.proofs.Registers.{SameRegister, last_in_register, register_by_members, register_completed, same_register}
use Rattle.cg_blkdone.proofs.Told.{told}
use Rattle.cg_blkdone.proofs.Words.{AccessesWindow, AccessesWindowIf, window_by_default, window_words}

-- ---- numbers that may be a parameter's name

-- u has the number of t at the key, or what stands there
abbrev pub NumberCompleted : List ℕ → Tree → Tree → Type 0
NumberCompleted key t u = get key (told u) ≡ or_else (option_map number_of (number_at 0 4294967295 key (members_of t))) (get key (told t))

number_by : (key : List ℕ) (t u : Tree) (o : Option ℕ) → number_at 0 4294967295 key (members_of t) ≡ o
    → get key (told u) ≡ or_else (option_map number_of o) (get key (told t)) → number_at 0 4294967295 key (members_of u) ≡ number_at 0 4294967295 key (members_of t)
number_by key t u None is there = number_kept 0 4294967295 key t u there
number_by key t u (Some v) is there = number_has 0 4294967295 key u (number_of v) there ∙ number_back v (word_at key (members_of t) v is) ∙ sym is

-- the number that is read there is the same
pub same_number : (key : List ℕ) (t u : Tree) → NumberCompleted key t u → number_at 0 4294967295 key (members_of u) ≡ number_at 0 4294967295 key (members_of t)
same_number key t u there = number_by key t u (number_at 0 4294967295 key (members_of t)) refl there

count_by : (ps : List Parameter) (key : List ℕ) (t u : Tree) (o : Option ℕ) → number_at 0 4294967295 key (members_of t) ≡ o
    → get key (told u) ≡ or_else (option_map number_of o) (get key (told t)) → count_at ps key (members_of u) ≡ count_at ps key (members_of t)
unfolding count_at
count_by ps key t u None is there = λ i. number_or_parameter ps (number_kept 0 4294967295 key t u there i) (text_kept key t u there i)
count_by ps key t u (Some v) is there =
    ap (λ n. number_or_parameter ps n (text_at key (members_of u))) (number_by key t u (Some v) is there ∙ is)
    ∙ sym (ap (λ n. number_or_parameter ps n (text_at key (members_of t))) is)

-- so is the number that counts, which may be a parameter's
pub same_count : (ps : List Parameter) (key : List ℕ) (t u : Tree) → NumberCompleted key t u → count_at ps key (members_of u) ≡ count_at ps key (members_of t)
same_count ps key t u there = count_by ps key t u (number_at 0 4294967295 key (members_of t)) refl there

-- ---- registers

-- a completed register is the same
pub register_same : (t u : Tree) → Completed (register_pairs (members_of t)) t u → SameRegister t u
register_same t u done =
    by_object (register_pairs (members_of t)) t u done
    (λ is. same_register t u (register_completed t u (λ key. Unit {0}) (λ key listed. stands_at (register_pairs (members_of t)) t u done is key) tt tt tt tt tt tt tt tt tt tt))
    (register_by_members t u)

-- and complete
pub register_twice : (t u : Tree) → told u ≡ full_register t → full_register u ≡ full_register t
register_twice t u done = completed_twice (register_pairs (members_of t)) (register_pairs (members_of u)) t u done (register_same t u done).pairs

-- ---- multiregs

abbrev certain_copies : List Member → List Pair
certain_copies ms = pair (codes "regwen_multi") (boolean (is_true (codes "regwen_multi") ms)) ∷ pair (codes "compact") (boolean (is_compact ms)) ∷ []

abbrev number_of_at : List ℕ → List ℕ → List Member → Option Data
number_of_at key name ms = cond (bytes_eq key name) (option_map number_of (number_at 0 4294967295 name ms)) None

last_in_copies : (key : List ℕ) (ms : List Member) → last_at key (copy_pairs ms) ≡ or_else (number_of_at key (codes "count") ms) (last_at key (certain_copies ms))
unfolding copy_pairs
last_in_copies key ms =
    last_in_both key (certain_copies ms) (number_if (codes "count") ms)
    ∙ ap (λ o. or_else o (last_at key (certain_copies ms))) (last_in_pair_if key (codes "count") (option_map number_of (number_at 0 4294967295 (codes "count") ms)))

-- the same multiregs but for places
pub record SameMultireg (ps : List Parameter) (t u : Tree) : Type 0 where
  pub register : SameRegister t u
  pub number : number_at 0 4294967295 (codes "count") (members_of u) ≡ number_at 0 4294967295 (codes "count") (members_of t)
  pub count : count_at ps (codes "count") (members_of u) ≡ count_at ps (codes "count") (members_of t)
  pub compact : is_compact (members_of u) ≡ is_compact (members_of t)
  pub regwen_multi : is_true (codes "regwen_multi") (members_of u) ≡ is_true (codes "regwen_multi") (members_of t)

compact_again : (s r c : Bool) → (s && (not r && (s && (not r && c)))) ≡ (s && (not r && c))
compact_again true true c = refl
compact_again true false c = refl
compact_again false r c = refl

abbrev copies_of : Tree → List Pair
copies_of t = register_pairs (members_of t) ++ copy_pairs (members_of t)

multireg_by_members : (ps : List Parameter) (t u : Tree) → members_of u ≡ members_of t → SameMultireg ps t u
multireg_by_members ps t u same = record {
  register = register_by_members t u same;
  number = ap (λ ms. number_at 0 4294967295 (codes "count") ms) same;
  count = ap (count_at ps (codes "count")) same;
  compact = ap is_compact same;
  regwen_multi = ap (is_true (codes "regwen_multi")) same;
}

module _ (ps : List Parameter) (t u : Tree) (done : Completed (copies_of t) t u) (is : is_object (told t) ≡ true) where
  abbrev old : List Member
  old = members_of t

  stands : (key : List ℕ) → get key (told u) ≡ or_else (last_at key (copies_of t)) (get key (told t))
  stands key = stands_at (copies_of t) t u done is key

  -- at a key of the copies, which is none of a register's
  at_copies : (key : List ℕ) → last_at key (register_pairs old) ≡ None
      → get key (told u) ≡ or_else (or_else (number_of_at key (codes "count") old) (last_at key (certain_copies old))) (get key (told t))
  at_copies key none =
      stands key ∙ ap (λ o. or_else o (get key (told t)))
      (last_in_both key (register_pairs old) (copy_pairs old) ∙ (λ i. or_else (last_in_copies key old i) (none i))
      ∙ or_else_none (or_else (number_of_at key (codes "count") old) (last_at key (certain_copies old))))

  -- at a key that is none of the copies'
  at_register : (key : List ℕ) → last_at key (copy_pairs old) ≡ None → get key (told u) ≡ or_else (last_at key (register_pairs old)) (get key (told t))
  at_register key none =
      stands key ∙ ap (λ o. or_else o (get key (told t)))
      (last_in_both key (register_pairs old) (copy_pairs old) ∙ ap (λ o. or_else o (last_at key (register_pairs old))) none)

  register_in_object : SameRegister t u
  register_in_object = same_register t u (register_completed t u (λ key. last_at key (copy_pairs old) ≡ None) at_register
      (last_in_copies (codes "name") old) (last_in_copies (codes "regwen") old) (last_in_copies (codes "swaccess") old) (last_in_copies (codes "hwaccess") old)
      (last_in_copies (codes "hwext") old) (last_in_copies (codes "hwqe") old) (last_in_copies (codes "hwre") old)
      (last_in_copies (codes "shadowed") old) (last_in_copies (codes "fields") old)
      (last_in_copies (codes "resval") old))

  count_there : NumberCompleted (codes "count") t u
  count_there =
      at_copies (codes "count") (last_in_register (codes "count") old)
      ∙ ap (λ o. or_else o (get (codes "count") (told t))) (or_else_none (option_map number_of (number_at 0 4294967295 (codes "count") old)))

  regwen_multi_same : is_true (codes "regwen_multi") (members_of u) ≡ is_true (codes "regwen_multi") old
  regwen_multi_same =
      ap (λ o. unwrap_or o false) (boolean_has (codes "regwen_multi") u (boolean (is_true (codes "regwen_multi") old))
      (at_copies (codes "regwen_multi") (last_in_register (codes "regwen_multi") old)))

  compact_same : is_compact (members_of u) ≡ is_compact old
  unfolding is_compact
  compact_same =
      (λ i. register_in_object.sole i && (not (regwen_multi_same i)
      && unwrap_or (boolean_has (codes "compact") u (boolean (is_compact old)) (at_copies (codes "compact") (last_in_register (codes "compact") old)) i) true))
      ∙ compact_again (length (elements (codes "fields") old) == 1) (is_true (codes "regwen_multi") old) (unwrap_or (boolean_at (codes "compact") old) true)

  multireg_in_object : SameMultireg ps t u
  multireg_in_object = record {
    register = register_in_object;
    number = same_number (codes "count") t u count_there;
    count = same_count ps (codes "count") t u count_there;
    compact = compact_same;
    regwen_multi = regwen_multi_same;
  }

-- a completed multireg is the same
pub multireg_same : (ps : List Parameter) (t u : Tree) → told u ≡ full_multireg t → SameMultireg ps t u
multireg_same ps t u done = by_object (copies_of t) t u done (multireg_in_object ps t u done) (multireg_by_members ps t u)

-- and complete
pub multireg_twice : (t u : Tree) → told u ≡ full_multireg t → full_multireg u ≡ full_multireg t
unfolding copy_pairs
multireg_twice t u done =
    let same = multireg_same [] t u done in
    completed_twice (copies_of t) (copies_of u) t u done (λ i. same.register.pairs i
    ++ (pair (codes "regwen_multi") (boolean (same.regwen_multi i)) ∷ pair (codes "compact") (boolean (same.compact i))
    ∷ pair_if (codes "count") (option_map number_of (same.number i))))

-- ---- windows

abbrev window_sw : List Member → SwAccess
window_sw ms = unwrap_or (window_access_at (codes "swaccess") ms) software_access.Rw

abbrev certain_window : List Member → List Pair
certain_window ms = pair (codes "byte-write") (boolean (is_true (codes "byte-write") ms)) ∷ pair (codes "swaccess") (string (software_word (window_sw ms))) ∷ []

last_in_window : (key : List ℕ) (ms : List Member) → last_at key (window_pairs ms) ≡ or_else (number_of_at key (codes "items") ms) (last_at key (certain_window ms))
unfolding window_pairs
last_in_window key ms =
    last_in_both key (certain_window ms) (number_if (codes "items") ms)
    ∙ ap (λ o. or_else o (last_at key (certain_window ms))) (last_in_pair_if key (codes "items") (option_map number_of (number_at 0 4294967295 (codes "items") ms)))

-- the same windows but for places
pub record SameWindow (ps : List Parameter) (t u : Tree) : Type 0 where
  pub name : text_at (codes "name") (members_of u) ≡ text_at (codes "name") (members_of t)
  pub number : number_at 0 4294967295 (codes "items") (members_of u) ≡ number_at 0 4294967295 (codes "items") (members_of t)
  pub items : count_at ps (codes "items") (members_of u) ≡ count_at ps (codes "items") (members_of t)
  pub byte_write : is_true (codes "byte-write") (members_of u) ≡ is_true (codes "byte-write") (members_of t)
  pub sw : window_sw (members_of u) ≡ window_sw (members_of t)

window_by_members : (ps : List Parameter) (t u : Tree) → members_of u ≡ members_of t → SameWindow ps t u
window_by_members ps t u same = record {
  name = ap (text_at (codes "name")) same;
  number = ap (λ ms. number_at 0 4294967295 (codes "items") ms) same;
  items = ap (count_at ps (codes "items")) same;
  byte_write = ap (is_true (codes "byte-write")) same;
  sw = ap window_sw same;
}

text_accesses : (o : Option (List ℕ)) → AccessesWindowIf (option_and_then window_access o)
text_accesses None = tt
text_accesses (Some s) = window_words s

or_default : (o : Option SwAccess) → AccessesWindowIf o → AccessesWindow (unwrap_or o software_access.Rw)
or_default None is = window_by_default
or_default (Some k) is = is

window_accesses : (ms : List Member) → AccessesWindow (window_sw ms)
unfolding window_access_at
window_accesses ms = or_default (window_access_at (codes "swaccess") ms) (text_accesses (text_at (codes "swaccess") ms))

module _ (ps : List Parameter) (t u : Tree) (done : Completed (window_pairs (members_of t)) t u) (is : is_object (told t) ≡ true) where
  at_window : (key : List ℕ) → get key (told u) ≡ or_else (or_else (number_of_at key (codes "items") (members_of t)) (last_at key (certain_window (members_of t)))) (get key (told t))
  at_window key = stands_at (window_pairs (members_of t)) t u done is key ∙ ap (λ o. or_else o (get key (told t))) (last_in_window key (members_of t))

  items_there : NumberCompleted (codes "items") t u
  items_there = at_window (codes "items") ∙ ap (λ o. or_else o (get (codes "items") (told t))) (or_else_none (option_map number_of (number_at 0 4294967295 (codes "items") (members_of t))))

  sw_same : window_sw (members_of u) ≡ window_sw (members_of t)
  unfolding window_access_at
  sw_same = ap (λ o. unwrap_or o software_access.Rw)
      (ap (option_and_then window_access) (text_has (codes "swaccess") u (string (software_word (window_sw (members_of t)))) (at_window (codes "swaccess")))
      ∙ window_accesses (members_of t))

  window_in_object : SameWindow ps t u
  window_in_object = record {
    name = text_kept (codes "name") t u (at_window (codes "name"));
    number = same_number (codes "items") t u items_there;
    items = same_count ps (codes "items") t u items_there;
    byte_write = ap (λ o. unwrap_or o false) (boolean_has (codes "byte-write") u (boolean (is_true (codes "byte-write") (members_of t))) (at_window (codes "byte-write")));
    sw = sw_same;
  }

-- a completed window is the same
pub window_same : (ps : List Parameter) (t u : Tree) → told u ≡ full_window t → SameWindow ps t u
window_same ps t u done = by_object (window_pairs (members_of t)) t u done (window_in_object ps t u done) (window_by_members ps t u)

-- and complete
pub window_twice : (t u : Tree) → told u ≡ full_window t → full_window u ≡ full_window t
unfolding window_pairs
window_twice t u done =
    let same = window_same [] t u done in
    completed_twice (window_pairs (members_of t)) (window_pairs (members_of u)) t u done (λ i.
    pair (codes "byte-write") (boolean (same.byte_write i)) ∷ pair (codes "swaccess") (string (software_word (same.sw i)))
    ∷ pair_if (codes "items") (option_map number_of (same.number i)))
