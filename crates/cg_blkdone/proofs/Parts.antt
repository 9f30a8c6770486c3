-- The other parts of a completed block are the same, and complete.
use Rattle.std.proofs.Common.{◌≡◌, ℕ, ◌≤◌, Bool, true, false, List, [], ◌∷◌, map, Option, Some, None, option_map, unwrap_or, cond, codes, arith, refl, sym, ap, ◌∙◌}
use Rattle.std.specs.List.{filter}
use Rattle.std.specs.Option.{option_map_or}
use Rattle.std.specs.Str.{bytes_eq}
use Rattle.serde_json.specs.Data.{string}
use Rattle.serde_json.specs.Find.{get}
use Rattle.cg_desc.specs.declared.block.IoDir.{IoDir}
use Rattle.cg_hjson.specs.declared.tree.Member.{Member}
use Rattle.cg_hjson.specs.declared.tree.Tree.{Tree}
use Rattle.cg_keys.specs.Forms.{or_else}
use Rattle.cg_keys.specs.Lookups.{number_at, text_at}
use Rattle.cg_keys.specs.Values.{members_of}
use Rattle.cg_blkread.specs.Described.{alert_desc, clock_desc, interrupt_desc, pin_desc}
use Rattle.cg_blkread.specs.Interfaces.{has_text, interface_name}
use Rattle.cg_blkread.specs.Raw.{parameter_of, text_or_empty}
use Rattle.cg_blkdone.specs.Full.{Pair, full_interrupt, full_parameter, full_pin, number_if, number_of, pair, pair_if}
use Rattle.cg_blkdone.specs.Places.{alert_unplaced, interrupt_unplaced, start}
use Rattle.cg_blkdone.proofs.Bits.{number_back}
use Rattle.cg_blkdone.proofs.Completion.{Completed, by_object, completed_twice, number_has, stands_at, text_has, text_kept}
use Rattle.cg_blkdone.proofs.Copies.{same_number}
use Rattle.cg_blkdone.proofs.CompletedFields.{IsWord, word_at}
use Rattle.cg_blkdone.proofs.FieldLists.{first_same, rest_same}
use Rattle.cg_blkdone.proofs.Puts.{last_in_pair_if}
use Rattle.cg_blkdone.proofs.Told.{told}

-- ---- interrupts and pins

abbrev width_in : List Member → ℕ
width_in ms = unwrap_or (number_at 0 4294967295 (codes "width") ms) 1

word_or_one : (o : Option ℕ) → IsWord o → unwrap_or o 1 ≤ 4294967295
word_or_one None word = omega arith
word_or_one (Some v) word = word v refl

width_low : (ms : List Member) → width_in ms ≤ 4294967295
width_low ms = word_or_one (number_at 0 4294967295 (codes "width") ms) (word_at (codes "width") ms)

width_same : (t u : Tree) → get (codes "width") (told u) ≡ Some (number_of (width_in (members_of t))) → width_in (members_of u) ≡ width_in (members_of t)
width_same t u there =
    ap (λ o. unwrap_or o 1) (number_has 0 4294967295 (codes "width") u (number_of (width_in (members_of t))) there ∙ number_back (width_in (members_of t)) (width_low (members_of t)))

abbrev type_in : List Member → List ℕ
type_in ms = unwrap_or (text_at (codes "type") ms) (codes "event")

abbrev is_status : Option (List ℕ) → Bool
is_status o = option_map_or (bytes_eq (codes "status")) o false

status_by_default : (o : Option (List ℕ)) → is_status (Some (unwrap_or o (codes "event"))) ≡ is_status o
status_by_default None = refl
status_by_default (Some s) = refl

abbrev interrupt_pairs : Tree → List Pair
interrupt_pairs t = pair (codes "type") (string (type_in (members_of t))) ∷ pair (codes "width") (number_of (width_in (members_of t))) ∷ []

record SameInterrupt (t u : Tree) : Type 0 where
  name : text_at (codes "name") (members_of u) ≡ text_at (codes "name") (members_of t)
  width : width_in (members_of u) ≡ width_in (members_of t)
  type : type_in (members_of u) ≡ type_in (members_of t)
  status : is_status (text_at (codes "type") (members_of u)) ≡ is_status (text_at (codes "type") (members_of t))

interrupt_same : (t u : Tree) → Completed (interrupt_pairs t) t u → SameInterrupt t u
interrupt_same t u done = by_object (interrupt_pairs t) t u done
    (λ is.
    let there = stands_at (interrupt_pairs t) t u done is in
    let text = text_has (codes "type") u (string (type_in (members_of t))) (there (codes "type")) in
    record {
      name = text_kept (codes "name") t u (there (codes "name"));
      width = width_same t u (there (codes "width"));
      type = ap (λ o. unwrap_or o (codes "event")) text;
      status = ap is_status text ∙ status_by_default (text_at (codes "type") (members_of t));
    })
    (λ same. record {
      name = ap (text_at (codes "name")) same;
      width = ap width_in same;
      type = ap type_in same;
      status = ap (λ ms. is_status (text_at (codes "type") ms)) same;
    })

-- a completed interrupt is described alike
pub interrupt_described : (t u : Tree) → told u ≡ full_interrupt t → interrupt_unplaced (interrupt_desc u) ≡ interrupt_unplaced (interrupt_desc t)
unfolding interrupt_desc full_interrupt
interrupt_described t u done =
    let same = interrupt_same t u done in
    λ i. record { name = text_or_empty (same.name i); width = same.width i; status = same.status i; at = start }

-- and complete
pub interrupt_twice : (t u : Tree) → told u ≡ full_interrupt t → full_interrupt u ≡ full_interrupt t
unfolding full_interrupt
interrupt_twice t u done =
    let same = interrupt_same t u done in
    completed_twice (interrupt_pairs t) (interrupt_pairs u) t u done
    (λ i. pair (codes "type") (string (same.type i)) ∷ pair (codes "width") (number_of (same.width i)) ∷ [])

abbrev pin_pairs : Tree → List Pair
pin_pairs t = pair (codes "width") (number_of (width_in (members_of t))) ∷ []

record SamePin (t u : Tree) : Type 0 where
  name : text_at (codes "name") (members_of u) ≡ text_at (codes "name") (members_of t)
  width : width_in (members_of u) ≡ width_in (members_of t)

pin_same : (t u : Tree) → Completed (pin_pairs t) t u → SamePin t u
pin_same t u done = by_object (pin_pairs t) t u done
    (λ is. record {
      name = text_kept (codes "name") t u (stands_at (pin_pairs t) t u done is (codes "name"));
      width = width_same t u (stands_at (pin_pairs t) t u done is (codes "width"));
    })
    (λ same. record { name = ap (text_at (codes "name")) same; width = ap width_in same })

-- a completed pin is described alike
pub pin_described : (dir : IoDir) (t u : Tree) → told u ≡ full_pin t → pin_desc dir u ≡ pin_desc dir t
unfolding pin_desc full_pin
pin_described dir t u done = let same = pin_same t u done in λ i. record { name = text_or_empty (same.name i); width = same.width i; dir = dir }

-- and complete
pub pin_twice : (t u : Tree) → told u ≡ full_pin t → full_pin u ≡ full_pin t
unfolding full_pin
pin_twice t u done = completed_twice (pin_pairs t) (pin_pairs u) t u done (λ i. pair (codes "width") (number_of ((pin_same t u done).width i)) ∷ [])

-- ---- parameters

abbrev parameter_pairs : Tree → List Pair
parameter_pairs t = number_if (codes "default") (members_of t)

record SameParameter (t u : Tree) : Type 0 where
  name : text_at (codes "name") (members_of u) ≡ text_at (codes "name") (members_of t)
  number : number_at 0 4294967295 (codes "default") (members_of u) ≡ number_at 0 4294967295 (codes "default") (members_of t)

parameter_same : (t u : Tree) → Completed (parameter_pairs t) t u → SameParameter t u
parameter_same t u done = by_object (parameter_pairs t) t u done
    (λ is.
    let number = option_map number_of (number_at 0 4294967295 (codes "default") (members_of t)) in
    let there : (key : List ℕ) → get key (told u) ≡ or_else (cond (bytes_eq key (codes "default")) number None) (get key (told t)) =
    λ key. stands_at (parameter_pairs t) t u done is key ∙ ap (λ o. or_else o (get key (told t))) (last_in_pair_if key (codes "default") number) in
    record { name = text_kept (codes "name") t u (there (codes "name")); number = same_number (codes "default") t u (there (codes "default")) })
    (λ same. record { name = ap (text_at (codes "name")) same; number = ap (number_at 0 4294967295 (codes "default")) same })

-- a completed parameter is read alike
pub parameter_read : (t u : Tree) → told u ≡ full_parameter t → parameter_of u ≡ parameter_of t
unfolding parameter_of full_parameter
parameter_read t u done = let same = parameter_same t u done in λ i. record { name = text_or_empty (same.name i); number = same.number i }

-- and complete
pub parameter_twice : (t u : Tree) → told u ≡ full_parameter t → full_parameter u ≡ full_parameter t
unfolding full_parameter
parameter_twice t u done =
    completed_twice (parameter_pairs t) (parameter_pairs u) t u done (λ i. pair_if (codes "default") (option_map number_of ((parameter_same t u done).number i)))

-- ---- what tells the same

text_same : (key : List ℕ) (t u : Tree) → told u ≡ told t → text_at key (members_of u) ≡ text_at key (members_of t)
text_same key t u same = text_kept key t u (ap (get key) same)

-- alerts
pub alert_described : (t u : Tree) → told u ≡ told t → alert_unplaced (alert_desc u) ≡ alert_unplaced (alert_desc t)
unfolding alert_desc
alert_described t u same = λ i. record { name = text_or_empty (text_same (codes "name") t u same i); at = start }

-- clocks
pub clock_described : (t u : Tree) → told u ≡ told t → clock_desc u ≡ clock_desc t
unfolding clock_desc
clock_described t u same = λ i. record { clock = text_or_empty (text_same (codes "clock") t u same i); reset = text_same (codes "reset") t u same i }

-- the names of interfaces
pub named_same : (t u : Tree) → told u ≡ told t → interface_name u ≡ interface_name t
named_same t u same = text_same (codes "name") t u same

-- a test of a string at a key
pub text_is_same : (key word : List ℕ) (t u : Tree) → told u ≡ told t → has_text key word u ≡ has_text key word t
text_is_same key word t u same = ap (λ o. option_map_or (bytes_eq word) o false) (text_same key t u same)

-- those of some values that pass a test
pub filter_same : (test : Tree → Bool) → ((t u : Tree) → told u ≡ told t → test u ≡ test t) → (ts us : List Tree) → map told us ≡ map told ts
    → map told (filter test us) ≡ map told (filter test ts)
filter_same test alike [] [] same = refl
filter_same test alike [] (u ∷ us) same = absurd cc
filter_same test alike (t ∷ ts) [] same = absurd cc
filter_same test alike (t ∷ ts) (u ∷ us) same =
    let one = first_same _ _ _ _ same in
    either (test u) u (filter test us)
    ∙ (λ i. cond (alike t u one i) (one i ∷ filter_same test alike ts us (rest_same _ _ _ _ same) i) (filter_same test alike ts us (rest_same _ _ _ _ same) i))
    ∙ sym (either (test t) t (filter test ts)) where
      either : (b : Bool) (t : Tree) (ts : List Tree) → map told (cond b (t ∷ ts) ts) ≡ cond b (told t ∷ map told ts) (map told ts)
      either true t ts = refl
      either false t ts = refl
