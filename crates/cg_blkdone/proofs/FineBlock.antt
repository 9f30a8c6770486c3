-- The completed description of a block is a value that a document can say, and at most 64 deep.
use Rattle.std.proofs.Common.{◌≡◌, ℕ, suc, List, [], ◌∷◌, map, Option, Some, None, refl, subst, arith}
use Rattle.std.specs.Prelude.{All, codes}
use Rattle.std.specs.Option.{option_map_or}
use Rattle.std.specs.Str.{IsUtf8}
use Rattle.std.proofs.lemmas.List.Elements.{All-head, All-tail}
use Rattle.serde_json.specs.Data.{Data}
use Rattle.cg_hjson.specs.Json.{json_of}
use Rattle.cg_hjson.specs.Views.{tree_of}
use Rattle.cg_hjson.specs.declared.tree.Tree.{Tree}
use Rattle.cg_hjson.specs.declared.tree.Member.{Member}
use Rattle.cg_keys.specs.Elements.{elements}
use Rattle.cg_keys.specs.Forms.{number_within}
use Rattle.cg_keys.specs.Lookups.{number_at, text_at}
use Rattle.cg_keys.specs.Table.{value_at}
use Rattle.cg_keys.specs.Values.{items_of, members_of, object_in, or_empty}
use Rattle.cg_blkread.specs.Raw.{is_true, number_or_zero}
use Rattle.cg_blkdone.specs.Full.{block_pairs, entries_pairs, full_alert, full_block, full_entries, full_entry, full_interrupt, full_lists, full_multireg, full_parameter, full_pin, full_window, list_of, lists_in, number_if, number_of, pair, said_with}
use Rattle.cg_blkdone.proofs.Fine.{FinePairs, IsFine, a_word, fine_with, list_fine}
use Rattle.cg_blkdone.proofs.FineTrees.{IsFineMember, IsFineTree, fine_at, fine_elements, fine_items, fine_members, number_at_small, number_small, says_fine, text_utf8}
use Rattle.cg_blkdone.proofs.FineParts.{boolean_fine, each_fine, multireg_fine, number_fine, number_if_fine, or_small, or_utf8, register_fine, string_fine, window_fine}

-- ---- entries

-- what stands for a value at a key, or else
by_key : (n : ℕ) (o : Option Tree) (f : Tree → Data) (rest : Data) → ((v : Tree) → o ≡ Some v → IsFine n (f v)) → IsFine n rest → IsFine n (option_map_or f o rest)
by_key n None f rest h r = r
by_key n (Some v) f rest h r = h v refl

-- an object with one fine part put in place
pub one_pair : (n : ℕ) (key : List ℕ) (d : Data) (t : Tree) → IsUtf8 key → IsFine n d → IsFineTree (suc n) t → IsFine (suc n) (said_with (pair key d ∷ []) t)
one_pair n key d t u h f = fine_with n (pair key d ∷ []) (json_of (tree_of t)) (u, h, tt) (says_fine (suc n) t f)

-- an entry, by the key by which it is known
entry_fine : (n : ℕ) (t : Tree) → IsFineTree (suc (suc (suc (suc n)))) t → IsFine (suc (suc (suc (suc n)))) (full_entry t)
unfolding full_entry
entry_fine n t h =
    let m = suc (suc (suc n)) in
    by_key (suc m) (value_at (codes "multireg") (members_of t)) (λ v. said_with (pair (codes "multireg") (full_multireg v) ∷ []) t) _
    (λ v is. one_pair m (codes "multireg") (full_multireg v) t (a_word (codes "multireg") refl) (multireg_fine n v (fine_at m t (codes "multireg") v h is)) h)
    (by_key (suc m) (value_at (codes "window") (members_of t)) (λ v. said_with (pair (codes "window") (full_window v) ∷ []) t) _
    (λ v is. one_pair m (codes "window") (full_window v) t (a_word (codes "window") refl) (window_fine (suc (suc n)) v (fine_at m t (codes "window") v h is)) h)
    (by_key (suc m) (value_at (codes "skipto") (members_of t)) (λ v. said_with (pair (codes "skipto") (number_of (number_or_zero v)) ∷ []) t) _
    (λ v is. one_pair m (codes "skipto") _ t (a_word (codes "skipto") refl) (number_fine m _ (or_small (number_within 0 4294967295 v) 0 (number_small v) (omega arith))) h)
    (by_key (suc m) (value_at (codes "reserved") (members_of t)) (λ v. said_with (pair (codes "reserved") (number_of (number_or_zero v)) ∷ []) t) _
    (λ v is. one_pair m (codes "reserved") _ t (a_word (codes "reserved") refl) (number_fine m _ (or_small (number_within 0 4294967295 v) 0 (number_small v) (omega arith))) h)
    (register_fine (suc n) t h))))

-- a list of entries
entries_fine : (n : ℕ) (t : Tree) → IsFineTree (suc (suc (suc (suc (suc n))))) t → IsFine (suc (suc (suc (suc (suc n))))) (full_entries t)
entries_fine n t h =
    let m = suc (suc (suc (suc n))) in
    list_fine m (map full_entry (items_of t)) (each_fine m m full_entry (items_of t) (entry_fine n) (fine_items m t h))

-- ---- lists of entries

-- the lists of interfaces
named_fine : (n : ℕ) (ms : List Member) → All (IsFineMember (suc (suc (suc (suc (suc n)))))) ms → FinePairs (suc (suc (suc (suc (suc n))))) (entries_pairs ms)
named_fine n [] h = tt
named_fine n (m ∷ ms) h =
    let P = IsFineMember (suc (suc (suc (suc (suc n))))) in
    let first = All-head P m ms h in
    (first.key, entries_fine n m.value first.value, named_fine n ms (All-tail P m ms h))

-- the value of `registers`
lists_fine : (n : ℕ) (t : Tree) (o : Option (List Member)) → object_in t ≡ o → IsFineTree (suc (suc (suc (suc (suc (suc n)))))) t
    → IsFine (suc (suc (suc (suc (suc (suc n)))))) (lists_in t o)
lists_fine n t None is h = entries_fine (suc n) t h
lists_fine n t (Some ms) is h =
    let m = suc (suc (suc (suc (suc n)))) in
    let members = subst (λ (o : Option (List Member)). All (IsFineMember m) (or_empty o)) is (fine_members m t h) in
    fine_with m (entries_pairs ms) (json_of (tree_of t)) (named_fine n ms members) (says_fine (suc m) t h)

-- the key `registers` with its value
registers_pair : (n : ℕ) (o : Option Tree) → ((v : Tree) → o ≡ Some v → IsFineTree (suc (suc (suc (suc (suc (suc n)))))) v)
    → FinePairs (suc (suc (suc (suc (suc (suc n)))))) (full_lists o)
unfolding full_lists
registers_pair n None h = tt
registers_pair n (Some v) h = (a_word (codes "registers") refl, lists_fine n v (object_in v) refl (h v refl), tt)

-- ---- the other lists

-- an interrupt
interrupt_fine : (n : ℕ) (t : Tree) → IsFineTree (suc n) t → IsFine (suc n) (full_interrupt t)
unfolding full_interrupt
interrupt_fine n t h =
    let ms = members_of t in
    fine_with n _ (json_of (tree_of t)) (
      a_word (codes "type") refl,
      string_fine n _ (or_utf8 (text_at (codes "type") ms) (codes "event") (text_utf8 n t (codes "type") h) (a_word (codes "event") refl)),
      (a_word (codes "width") refl, number_fine n _ (or_small (number_at 0 4294967295 (codes "width") ms) 1 (number_at_small (codes "width") ms) (omega arith)), tt),
    )
    (says_fine (suc n) t h)

-- an alert
alert_fine : (n : ℕ) (t : Tree) → IsFineTree n t → IsFine n (full_alert t)
unfolding full_alert
alert_fine n t h = says_fine n t h

-- a parameter
parameter_fine : (n : ℕ) (t : Tree) → IsFineTree (suc n) t → IsFine (suc n) (full_parameter t)
unfolding full_parameter
parameter_fine n t h =
    fine_with n (number_if (codes "default") (members_of t)) (json_of (tree_of t)) (number_if_fine n (codes "default") (members_of t) (a_word (codes "default") refl)) (says_fine (suc n) t h)

-- a pin
pin_fine : (n : ℕ) (t : Tree) → IsFineTree (suc n) t → IsFine (suc n) (full_pin t)
unfolding full_pin
pin_fine n t h =
    one_pair n (codes "width") _ t (a_word (codes "width") refl)
    (number_fine n _ (or_small (number_at 0 4294967295 (codes "width") (members_of t)) 1 (number_at_small (codes "width") (members_of t)) (omega arith))) h

-- the list at a key of the block
listed : (t : Tree) (key : List ℕ) (f : Tree → Data) → ((u : Tree) → IsFineTree 62 u → IsFine 62 (f u)) → IsFineTree 64 t → IsFine 63 (list_of (map f (elements key (members_of t))))
listed t key f by h = list_fine 62 (map f (elements key (members_of t))) (each_fine 62 62 f (elements key (members_of t)) by (fine_elements 62 t key h))

-- ---- the block

-- the whole block
pub block_fine : (t : Tree) → IsFineTree 64 t → IsFine 64 (full_block t)
unfolding full_block block_pairs
block_fine t h =
    let ms = members_of t in
    fine_with 63 (block_pairs ms) (json_of (tree_of t)) (
      a_word (codes "interrupt_list") refl,
      listed t (codes "interrupt_list") full_interrupt (interrupt_fine 61) h,
      (
        a_word (codes "alert_list") refl,
        listed t (codes "alert_list") full_alert (alert_fine 62) h,
        (
          a_word (codes "no_auto_intr_regs") refl,
          boolean_fine 63 (is_true (codes "no_auto_intr_regs") ms),
          (
            a_word (codes "no_auto_alert_regs") refl,
            boolean_fine 63 (is_true (codes "no_auto_alert_regs") ms),
            (
              a_word (codes "param_list") refl,
              listed t (codes "param_list") full_parameter (parameter_fine 61) h,
              (
                a_word (codes "regwidth") refl,
                number_fine 63 32 (omega arith),
                (
                  a_word (codes "available_input_list") refl,
                  listed t (codes "available_input_list") full_pin (pin_fine 61) h,
                  (
                    a_word (codes "available_output_list") refl,
                    listed t (codes "available_output_list") full_pin (pin_fine 61) h,
                    (
                      a_word (codes "available_inout_list") refl,
                      listed t (codes "available_inout_list") full_pin (pin_fine 61) h,
                      registers_pair 57 (value_at (codes "registers") ms) (λ v is. fine_at 63 t (codes "registers") v h is),
                    ),
                  ),
                ),
              ),
            ),
          ),
        ),
      ),
    )
    (says_fine 64 t h)
