-- Completed entries are the same entries, and complete.
use Rattle.std.proofs.Common.{◌≡◌, ℕ, ◌≤◌, Bool, true, false, List, [], ◌∷◌, Option, Some, None, option_map, unwrap_or, codes, arith, refl, sym, ap, ◌∙◌}
use Rattle.std.specs.Option.{option_map_or}
use Rattle.serde_json.specs.Data.{Data}
use Rattle.serde_json.specs.Find.{get}
use Rattle.cg_desc.specs.declared.block.Written.TheVariants as written
use Rattle.cg_hjson.specs.declared.tree.Tree.{Tree}
use Rattle.cg_keys.specs.Forms.{number_in, number_within, or_else}
use Rattle.cg_keys.specs.Table.{value_at}
use Rattle.cg_keys.specs.Values.{members_of}
use Rattle.cg_blkread.specs.Described.{written_entry}
use Rattle.cg_blkread.specs.Raw.{Parameter, number_or_zero, raw_entry, raw_multireg, raw_register, raw_window, text_or_empty}
use Rattle.cg_blkread.specs.declared.raw.RawEntry.{RawEntry}
use Rattle.cg_blkread.specs.declared.raw.RawEntry.TheVariants as entry
use Rattle.cg_blkdone.specs.Full.{Pair, full_entry, full_multireg, full_register, full_window, number_of, pair, register_pairs, said_with}
use Rattle.cg_blkdone.specs.Places.{entry_unplaced, start}
use Rattle.cg_blkdone.proofs.Bits.{found_within, number_back}
use Rattle.cg_blkdone.proofs.Completion.{Completed, by_object, completed_twice, stands_at}
use Rattle.cg_blkdone.proofs.Copies.{multireg_same, multireg_twice, register_same, register_twice, window_same, window_twice}
use Rattle.cg_blkdone.proofs.Lookups.{FoundAt, absent_at, found_at, is_object, no_members, number_told, number_told_in}
use Rattle.cg_blkdone.proofs.Puts.{last_at}
use Rattle.cg_blkdone.proofs.Registers.{last_in_register}
use Rattle.cg_blkdone.proofs.Told.{found_told, told}

-- ---- an entry by what stands at its keys

abbrev Value : Type 0
Value = Option Tree

abbrev raw_by : List Parameter → Tree → Value → Value → Value → Value → RawEntry
raw_by ps t m w s r =
    option_map_or (λ m. entry.Multireg (raw_multireg ps m)) m
    (option_map_or (λ w. entry.Window (raw_window ps w)) w
    (option_map_or (λ s. entry.SkipTo (number_or_zero s) s.at) s
    (option_map_or (λ r. entry.Reserved (number_or_zero r) r.at) r
    (entry.Register (raw_register t)))))

abbrev full_by : Tree → Value → Value → Value → Value → Data
full_by t m w s r =
    option_map_or (λ m. said_with (pair (codes "multireg") (full_multireg m) ∷ []) t) m
    (option_map_or (λ w. said_with (pair (codes "window") (full_window w) ∷ []) t) w
    (option_map_or (λ s. said_with (pair (codes "skipto") (number_of (number_or_zero s)) ∷ []) t) s
    (option_map_or (λ r. said_with (pair (codes "reserved") (number_of (number_or_zero r)) ∷ []) t) r
    (full_register t))))

-- what stands at the keys of an entry
record Stands (t : Tree) (m w s r : Value) : Type 0 where
  multireg : value_at (codes "multireg") (members_of t) ≡ m
  window : value_at (codes "window") (members_of t) ≡ w
  skipto : value_at (codes "skipto") (members_of t) ≡ s
  reserved : value_at (codes "reserved") (members_of t) ≡ r

abbrev standing : (t : Tree) → Stands t (value_at (codes "multireg") (members_of t)) (value_at (codes "window") (members_of t)) (value_at (codes "skipto") (members_of t)) (value_at (codes "reserved") (members_of t))
standing t = record { multireg = refl; window = refl; skipto = refl; reserved = refl }

raw_is : (ps : List Parameter) (t : Tree) (m w s r : Value) → Stands t m w s r → raw_entry ps t ≡ raw_by ps t m w s r
unfolding raw_entry
raw_is ps t m w s r stands = λ i. raw_by ps t (stands.multireg i) (stands.window i) (stands.skipto i) (stands.reserved i)

full_is : (t : Tree) (m w s r : Value) → Stands t m w s r → full_entry t ≡ full_by t m w s r
unfolding full_entry
full_is t m w s r stands = λ i. full_by t (stands.multireg i) (stands.window i) (stands.skipto i) (stands.reserved i)

-- the same entries but for places, both complete
record SameEntry (ps : List Parameter) (t u : Tree) : Type 0 where
  described : entry_unplaced (written_entry (raw_entry ps u)) ≡ entry_unplaced (written_entry (raw_entry ps t))
  full : full_entry u ≡ full_entry t

-- ---- numbers of words

zero_or_low : (o : Option ℕ) → ((v : ℕ) → o ≡ Some v → v ≤ 4294967295) → unwrap_or o 0 ≤ 4294967295
zero_or_low None low = omega arith
zero_or_low (Some v) low = low v refl

pub word_low : (t : Tree) → number_or_zero t ≤ 4294967295
unfolding number_within
word_low t = zero_or_low (number_within 0 4294967295 t) (λ v h. found_within 0 4294967295 v (number_in t) h)

same_word : (t u : Tree) → told u ≡ number_of (number_or_zero t) → number_or_zero u ≡ number_or_zero t
same_word t u done =
    ap (λ o. unwrap_or o 0) (number_told 0 4294967295 u ∙ ap (number_told_in 0 4294967295) done ∙ number_back (number_or_zero t) (word_low t))

-- ---- an entry that is known by a key

holder_by : (key : List ℕ) (t v : Tree) (b : Bool) → is_object (told t) ≡ b → value_at key (members_of t) ≡ Some v → is_object (told t) ≡ true
unfolding value_at
holder_by key t v true is there = is
holder_by key t v false is there = absurd (none_there (ap (value_at key) (sym (no_members t is)) ∙ there)) where
  none_there : value_at key [] ≡ Some v → ⊥
  none_there h = cc

-- what has a member is an object
holder : (key : List ℕ) (t v : Tree) → value_at key (members_of t) ≡ Some v → is_object (told t) ≡ true
holder key t v there = holder_by key t v (is_object (told t)) refl there

-- what is absent in t, and is not put there, is absent in u
still_absent : (key : List ℕ) (ps : List Pair) (t u : Tree) → Completed ps t u → is_object (told t) ≡ true → last_at key ps ≡ None → value_at key (members_of t) ≡ None
    → value_at key (members_of u) ≡ None
still_absent key ps t u done is other none =
    absent_at key u (stands_at ps t u done is key ∙ (λ i. or_else (other i) (get key (told t))) ∙ sym (found_told key t) ∙ ap (option_map told) none)

multireg_entry : (ps : List Parameter) (t u m : Tree) (w s r : Value) → Stands t (Some m) w s r → told u ≡ full_entry t → SameEntry ps t u
unfolding written_entry raw_multireg
multireg_entry ps t u m w s r stands done =
    let known = full_is t (Some m) w s r stands in
    let pairs : List Pair = pair (codes "multireg") (full_multireg m) ∷ [] in
    let completed : Completed pairs t u = done ∙ known in
    let found : FoundAt (codes "multireg") u (full_multireg m) =
    found_at (codes "multireg") u (full_multireg m) (stands_at pairs t u completed (holder (codes "multireg") t m stands.multireg) (codes "multireg")) in
    let v : Tree = found.value in
    let here : Stands u (Some v) _ _ _ = record { multireg = found.there; window = refl; skipto = refl; reserved = refl } in
    let same = multireg_same ps m v found.tells in
    record {
      described = ap (λ e. entry_unplaced (written_entry e)) (raw_is ps u (Some v) _ _ _ here)
          ∙ (λ i. written.Multi (record { reg = same.register.described i; count = unwrap_or (same.count i) 0; compact = same.compact i; regwen_multi = same.regwen_multi i }))
          ∙ sym (ap (λ e. entry_unplaced (written_entry e)) (raw_is ps t (Some m) w s r stands));
      full = full_is u (Some v) _ _ _ here
          ∙ completed_twice pairs (pair (codes "multireg") (full_multireg v) ∷ []) t u completed (ap (λ d. pair (codes "multireg") d ∷ []) (multireg_twice m v found.tells))
          ∙ sym known;
    }

window_entry : (ps : List Parameter) (t u w : Tree) (s r : Value) → Stands t None (Some w) s r → told u ≡ full_entry t → SameEntry ps t u
unfolding written_entry raw_window
window_entry ps t u w s r stands done =
    let known = full_is t None (Some w) s r stands in
    let pairs : List Pair = pair (codes "window") (full_window w) ∷ [] in
    let completed : Completed pairs t u = done ∙ known in
    let is = holder (codes "window") t w stands.window in
    let found : FoundAt (codes "window") u (full_window w) = found_at (codes "window") u (full_window w) (stands_at pairs t u completed is (codes "window")) in
    let v : Tree = found.value in
    let here : Stands u None (Some v) _ _ =
    record { multireg = still_absent (codes "multireg") pairs t u completed is refl stands.multireg; window = found.there; skipto = refl; reserved = refl } in
    let same = window_same ps w v found.tells in
    record {
      described = ap (λ e. entry_unplaced (written_entry e)) (raw_is ps u None (Some v) _ _ here)
          ∙ (λ i. written.Window (record { name = text_or_empty (same.name i); items = unwrap_or (same.items i) 0; byte_write = same.byte_write i; sw = same.sw i; at = start }))
          ∙ sym (ap (λ e. entry_unplaced (written_entry e)) (raw_is ps t None (Some w) s r stands));
      full = full_is u None (Some v) _ _ here
          ∙ completed_twice pairs (pair (codes "window") (full_window v) ∷ []) t u completed (ap (λ d. pair (codes "window") d ∷ []) (window_twice w v found.tells))
          ∙ sym known;
    }

skip_entry : (ps : List Parameter) (t u s : Tree) (r : Value) → Stands t None None (Some s) r → told u ≡ full_entry t → SameEntry ps t u
unfolding written_entry
skip_entry ps t u s r stands done =
    let known = full_is t None None (Some s) r stands in
    let value : Data = number_of (number_or_zero s) in
    let pairs : List Pair = pair (codes "skipto") value ∷ [] in
    let completed : Completed pairs t u = done ∙ known in
    let is = holder (codes "skipto") t s stands.skipto in
    let found : FoundAt (codes "skipto") u value = found_at (codes "skipto") u value (stands_at pairs t u completed is (codes "skipto")) in
    let v : Tree = found.value in
    let here : Stands u None None (Some v) _ = record {
      multireg = still_absent (codes "multireg") pairs t u completed is refl stands.multireg;
      window = still_absent (codes "window") pairs t u completed is refl stands.window;
      skipto = found.there;
      reserved = refl;
    } in
    let same = same_word s v found.tells in
    record {
      described = ap (λ e. entry_unplaced (written_entry e)) (raw_is ps u None None (Some v) _ here)
          ∙ ap (λ n. written.SkipTo n start) same
          ∙ sym (ap (λ e. entry_unplaced (written_entry e)) (raw_is ps t None None (Some s) r stands));
      full = full_is u None None (Some v) _ here
          ∙ completed_twice pairs (pair (codes "skipto") (number_of (number_or_zero v)) ∷ []) t u completed (ap (λ n. pair (codes "skipto") (number_of n) ∷ []) same)
          ∙ sym known;
    }

reserved_entry : (ps : List Parameter) (t u r : Tree) → Stands t None None None (Some r) → told u ≡ full_entry t → SameEntry ps t u
unfolding written_entry
reserved_entry ps t u r stands done =
    let known = full_is t None None None (Some r) stands in
    let value : Data = number_of (number_or_zero r) in
    let pairs : List Pair = pair (codes "reserved") value ∷ [] in
    let completed : Completed pairs t u = done ∙ known in
    let is = holder (codes "reserved") t r stands.reserved in
    let found : FoundAt (codes "reserved") u value = found_at (codes "reserved") u value (stands_at pairs t u completed is (codes "reserved")) in
    let v : Tree = found.value in
    let here : Stands u None None None (Some v) = record {
      multireg = still_absent (codes "multireg") pairs t u completed is refl stands.multireg;
      window = still_absent (codes "window") pairs t u completed is refl stands.window;
      skipto = still_absent (codes "skipto") pairs t u completed is refl stands.skipto;
      reserved = found.there;
    } in
    let same = same_word r v found.tells in
    record {
      described = ap (λ e. entry_unplaced (written_entry e)) (raw_is ps u None None None (Some v) here)
          ∙ ap (λ n. written.Reserved n start) same
          ∙ sym (ap (λ e. entry_unplaced (written_entry e)) (raw_is ps t None None None (Some r) stands));
      full = full_is u None None None (Some v) here
          ∙ completed_twice pairs (pair (codes "reserved") (number_of (number_or_zero v)) ∷ []) t u completed (ap (λ n. pair (codes "reserved") (number_of n) ∷ []) same)
          ∙ sym known;
    }

-- ---- an entry that is a register

register_absent : (key : List ℕ) (t u : Tree) → Completed (register_pairs (members_of t)) t u → last_at key (register_pairs (members_of t)) ≡ None
    → value_at key (members_of t) ≡ None → value_at key (members_of u) ≡ None
register_absent key t u done other none =
    by_object (register_pairs (members_of t)) t u done
    (λ is. still_absent key (register_pairs (members_of t)) t u done is other none)
    (λ same. ap (value_at key) same ∙ none)

register_entry : (ps : List Parameter) (t u : Tree) → Stands t None None None None → told u ≡ full_entry t → SameEntry ps t u
unfolding written_entry
register_entry ps t u stands done =
    let known = full_is t None None None None stands in
    let completed : Completed (register_pairs (members_of t)) t u = done ∙ known in
    let here : Stands u None None None None = record {
      multireg = register_absent (codes "multireg") t u completed (last_in_register (codes "multireg") (members_of t)) stands.multireg;
      window = register_absent (codes "window") t u completed (last_in_register (codes "window") (members_of t)) stands.window;
      skipto = register_absent (codes "skipto") t u completed (last_in_register (codes "skipto") (members_of t)) stands.skipto;
      reserved = register_absent (codes "reserved") t u completed (last_in_register (codes "reserved") (members_of t)) stands.reserved;
    } in
    record {
      described = ap (λ e. entry_unplaced (written_entry e)) (raw_is ps u None None None None here)
          ∙ ap written.Reg (register_same t u completed).described
          ∙ sym (ap (λ e. entry_unplaced (written_entry e)) (raw_is ps t None None None None stands));
      full = full_is u None None None None here ∙ register_twice t u completed ∙ sym known;
    }

-- ---- each entry

entry_by : (ps : List Parameter) (t u : Tree) (m w s r : Value) → Stands t m w s r → told u ≡ full_entry t → SameEntry ps t u
entry_by ps t u (Some m) w s r stands done = multireg_entry ps t u m w s r stands done
entry_by ps t u None (Some w) s r stands done = window_entry ps t u w s r stands done
entry_by ps t u None None (Some s) r stands done = skip_entry ps t u s r stands done
entry_by ps t u None None None (Some r) stands done = reserved_entry ps t u r stands done
entry_by ps t u None None None None stands done = register_entry ps t u stands done

entry_same : (ps : List Parameter) (t u : Tree) → told u ≡ full_entry t → SameEntry ps t u
entry_same ps t u done = entry_by ps t u _ _ _ _ (standing t) done

-- a completed entry is described alike
pub entry_described : (ps : List Parameter) (t u : Tree) → told u ≡ full_entry t → entry_unplaced (written_entry (raw_entry ps u)) ≡ entry_unplaced (written_entry (raw_entry ps t))
entry_described ps t u done = (entry_same ps t u done).described

-- and complete
pub entry_twice : (t u : Tree) → told u ≡ full_entry t → full_entry u ≡ full_entry t
entry_twice t u done = (entry_same [] t u done).full
