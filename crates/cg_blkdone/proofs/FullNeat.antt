-- A completed description is neat: a document that says it tells it.
use Rattle.std.proofs.Common.{ℕ, ◌+◌, List, [], ◌∷◌, ◌++◌, map, Option, Some, None, option_map, codes, refl}
use Rattle.std.specs.Option.{option_map_or}
use Rattle.serde_json.specs.Data.{Data}
use Rattle.cg_hjson.specs.Json.{json_kind}
use Rattle.cg_hjson.specs.Views.{tree_of}
use Rattle.cg_hjson.specs.declared.tree.Member.{Member}
use Rattle.cg_hjson.specs.declared.tree.Tree.{Tree}
use Rattle.cg_keys.specs.Elements.{elements}
use Rattle.cg_keys.specs.Table.{value_at}
use Rattle.cg_keys.specs.Values.{items_of, members_of, object_in}
use Rattle.cg_blkread.specs.Raw.{Shared, raw_field, register_reset, shared_of}
use Rattle.cg_blkread.specs.declared.raw.RawField.{RawField}
use Rattle.cg_blkdone.specs.Full.{Pair, block_pairs, copy_pairs, entries_pairs, field_pairs, full_alert, full_block, full_entries, full_entry, full_fields, full_interrupt, full_lists, full_multireg, full_parameter, full_pin, full_register, full_window, lists_in, number_of, pair_if, register_pairs, said_with, window_pairs}
use Rattle.cg_blkdone.proofs.Neat.{AllNeat, IsNeat, PairsNeat, list_neat, pairs_neat, told_neat, with_all_neat}
use Rattle.cg_blkdone.proofs.Told.{told}

-- what is completed with neat values
pub completed : (ps : List Pair) (t : Tree) → PairsNeat ps → IsNeat (said_with ps t)
completed ps t neat = with_all_neat ps (told t) neat (told_neat (tree_of t))

all_full : (full : Tree → Data) → ((t : Tree) → IsNeat (full t)) → (ts : List Tree) → AllNeat (map full ts)
all_full full neat [] = tt
all_full full neat (t ∷ ts) = (neat t, all_full full neat ts)

-- a number
pub number_neat : (n : ℕ) → IsNeat (number_of n)
unfolding IsNeat json_kind
number_neat n = refl

if_neat : (key : List ℕ) (o : Option ℕ) → PairsNeat (pair_if key (option_map number_of o))
if_neat key None = tt
if_neat key (Some n) = (number_neat n, tt)

-- ---- fields and registers

field_neat : (register_resval : Option ℕ) (f : RawField) → PairsNeat (field_pairs register_resval f)
unfolding field_pairs IsNeat json_kind
field_neat register_resval f = (tt, (tt, (tt, (tt, (refl, (tt, tt))))))

fields_neat : (shared : Shared) (register_resval : Option ℕ) (n : ℕ) (ts : List Tree) → AllNeat (full_fields shared register_resval n ts)
unfolding full_fields
fields_neat shared register_resval n [] = tt
fields_neat shared register_resval n (t ∷ ts) = (completed (field_pairs register_resval (raw_field shared n t)) t (field_neat register_resval (raw_field shared n t)), fields_neat shared register_resval (n + 1) ts)

register_neat : (ms : List Member) → PairsNeat (register_pairs ms)
unfolding register_pairs IsNeat
register_neat ms =
    let fields = list_neat _ (fields_neat (shared_of ms) (register_reset ms) 1 (elements (codes "fields") ms)) in
    (tt, (tt, (tt, (tt, (tt, (tt, (fields, if_neat (codes "resval") (register_reset ms))))))))

copies_neat : (ms : List Member) → PairsNeat (copy_pairs ms)
unfolding copy_pairs IsNeat
copies_neat ms = (tt, (tt, if_neat (codes "count") _))

window_neat : (ms : List Member) → PairsNeat (window_pairs ms)
unfolding window_pairs IsNeat
window_neat ms = (tt, (tt, if_neat (codes "items") _))

-- ---- entries

or_neat : (f : Tree → Data) (d : Data) (o : Option Tree) → ((t : Tree) → IsNeat (f t)) → IsNeat d → IsNeat (option_map_or f o d)
or_neat f d None each other = other
or_neat f d (Some t) each other = each t

full_register_neat : (t : Tree) → IsNeat (full_register t)
full_register_neat t = completed (register_pairs (members_of t)) t (register_neat (members_of t))

full_multireg_neat : (t : Tree) → IsNeat (full_multireg t)
full_multireg_neat t =
    completed (register_pairs (members_of t) ++ copy_pairs (members_of t)) t
    (pairs_neat (register_pairs (members_of t)) (copy_pairs (members_of t)) (register_neat (members_of t)) (copies_neat (members_of t)))

full_window_neat : (t : Tree) → IsNeat (full_window t)
full_window_neat t = completed (window_pairs (members_of t)) t (window_neat (members_of t))

entry_neat : (t : Tree) → IsNeat (full_entry t)
unfolding full_entry
entry_neat t =
    or_neat _ _ (value_at (codes "multireg") (members_of t)) (λ m. completed _ t (full_multireg_neat m, tt))
    (or_neat _ _ (value_at (codes "window") (members_of t)) (λ w. completed _ t (full_window_neat w, tt))
    (or_neat _ _ (value_at (codes "skipto") (members_of t)) (λ s. completed _ t (number_neat _, tt))
    (or_neat _ _ (value_at (codes "reserved") (members_of t)) (λ r. completed _ t (number_neat _, tt))
    (full_register_neat t))))

entries_neat : (t : Tree) → IsNeat (full_entries t)
entries_neat t = list_neat _ (all_full full_entry entry_neat (items_of t))

each_neat : (ms : List Member) → PairsNeat (entries_pairs ms)
each_neat [] = tt
each_neat (m ∷ ms) = (entries_neat m.value, each_neat ms)

lists_in_neat : (t : Tree) (o : Option (List Member)) → IsNeat (lists_in t o)
lists_in_neat t None = entries_neat t
lists_in_neat t (Some ms) = completed (entries_pairs ms) t (each_neat ms)

lists_neat : (o : Option Tree) → PairsNeat (full_lists o)
unfolding full_lists
lists_neat None = tt
lists_neat (Some t) = (lists_in_neat t (object_in t), tt)

-- ---- the block

interrupt_neat : (t : Tree) → IsNeat (full_interrupt t)
unfolding full_interrupt IsNeat json_kind
interrupt_neat t = completed _ t (tt, (refl, tt))

alert_neat : (t : Tree) → IsNeat (full_alert t)
unfolding full_alert
alert_neat t = told_neat (tree_of t)

parameter_neat : (t : Tree) → IsNeat (full_parameter t)
unfolding full_parameter
parameter_neat t = completed _ t (if_neat (codes "default") _)

pin_neat : (t : Tree) → IsNeat (full_pin t)
unfolding full_pin
pin_neat t = completed _ t (number_neat _, tt)

-- the completed elements of the list at a key
pub list_at : (key : List ℕ) (ms : List Member) (full : Tree → Data) → ((t : Tree) → IsNeat (full t)) → AllNeat (map full (elements key ms))
list_at key ms full neat = all_full full neat (elements key ms)

block_neat : (ms : List Member) → PairsNeat (block_pairs ms)
unfolding block_pairs IsNeat json_kind
block_neat ms =
    let inputs = list_neat _ (list_at (codes "available_input_list") ms full_pin pin_neat) in
    let outputs = list_neat _ (list_at (codes "available_output_list") ms full_pin pin_neat) in
    let inouts = list_neat _ (list_at (codes "available_inout_list") ms full_pin pin_neat) in
    let parameters = list_neat _ (list_at (codes "param_list") ms full_parameter parameter_neat) in
    let interrupts = list_neat _ (list_at (codes "interrupt_list") ms full_interrupt interrupt_neat) in
    let alerts = list_neat _ (list_at (codes "alert_list") ms full_alert alert_neat) in
    let lists = lists_neat (value_at (codes "registers") ms) in
    (interrupts, (alerts, (tt, (tt, (parameters, (refl, (inputs, (outputs, (inouts, lists)))))))))

-- the whole
pub full_neat : (t : Tree) → IsNeat (full_block t)
unfolding full_block
full_neat t = completed (block_pairs (members_of t)) t (block_neat (members_of t))
