-- The members of an object's JSON value.
use Rattle.std.proofs.Common.{◌≡◌, ℕ, List, [], ◌∷◌, true, false, Bool, bytes_eq, refl, sym, ◌∙◌, true≢false, option_map}
use Rattle.std.proofs.lemmas.Slice.Eq.{bytes_eq-Decides}
use Rattle.serde_json.specs.Find.{get_member}
use Rattle.serde_json.proofs.Views.{get_member-put, get_member-put_other}
use Rattle.cg_docspec.specs.Tree.{Member, members}
use Rattle.cg_hjson.specs.Json.{json_of, json_members, value_at}

-- by whether the first member has the key
by_first : (b : Bool) (key : List ℕ) (m : Member) (ms : List Member) → bytes_eq key m.key ≡ b →
    get_member key (json_members (members ms)) ≡ option_map json_of (value_at key ms) →
    get_member key (json_members (members (m ∷ ms))) ≡ option_map json_of (value_at key (m ∷ ms))
unfolding json_members
by_first true key m ms is more =
    let same = (bytes_eq-Decides key m.key).0 is in
    rw (is, same) (get_member-put m.key (json_of m.value) (json_members (members ms)))
by_first false key m ms is more =
    let other = λ (same : key ≡ m.key). true≢false (sym ((bytes_eq-Decides key m.key).1 same) ∙ is) in
    rw is (get_member-put_other key m.key (json_of m.value) (json_members (members ms)) other ∙ more)

-- the value at a key is that of the first member with it
pub kept : (key : List ℕ) (ms : List Member) → get_member key (json_members (members ms)) ≡ option_map json_of (value_at key ms)
unfolding json_members
kept key [] = refl
kept key (m ∷ ms) = by_first (bytes_eq key m.key) key m ms refl (kept key ms)
