-- An item's name comes twice exactly where it is found.
use Rattle.std.proofs.Common.{ℕ, ◌≡◌, Bool, true, false, ◌||◌, List, [], ◌∷◌, ◌++◌, Option, Some, None, inl, inr, refl, sym, ap, ◌∙◌, subst}
use Rattle.std.specs.List.{list_any}
use Rattle.std.specs.Option.{option_map_or}
use Rattle.cg_desc.specs.declared.block.Item.{Item}
use Rattle.cg_desc.specs.declared.block.Item.TheVariants.{Reg, Window, SkipTo, Reserved}
use Rattle.cg_finding.specs.Finding.{Finding, In, finding}
use Rattle.cg_finding.proofs.Members.{in_either, in_left, in_right, in_when, when_has}
use Rattle.cg_expand.specs.Violations.{ItemNameTwice, Named, has_name, name_of}
use Rattle.cg_expand.specs.Parts.Faults.{none_known}
use Rattle.cg_expand.specs.Parts.Names.{also, item_twice, known_twice, names_twice}

-- an item's name is known, or that of an earlier one
pub record KnownTwice (known : List ℕ → Bool) (items : List Item) (f : Finding) : Type 0 where
  pub before : List Item
  pub item : Item
  pub after : List Item
  pub stands : items ≡ before ++ (item ∷ after)
  pub name : Named
  pub is_name : name_of item ≡ Some name
  pub twice : (known name.name || list_any (has_name name.name) before) ≡ true
  pub says : f ≡ finding 4 34 name.at name.name

-- `||` in another order
or_turned : (a b c : Bool) → ((a || b) || c) ≡ (b || (a || c))
or_turned true true c = refl
or_turned true false c = refl
or_turned false b c = refl

or_false : (a : Bool) → (a || false) ≡ a
or_false true = refl
or_false false = refl

-- an item's name is known
record Known (known : List ℕ → Bool) (item : Item) (f : Finding) : Type 0 where
  name : Named
  is_name : name_of item ≡ Some name
  twice : known name.name ≡ true
  says : f ≡ finding 4 34 name.at name.name

in_named : (known : List ℕ → Bool) (item : Item) (n : Named) (f : Finding) → name_of item ≡ Some n → In f (known_twice known n) → Known known item f
unfolding known_twice
in_named known item n f is found = let test = in_when (known n.name) f (finding 4 34 n.at n.name) found in record { name = n; is_name = is; twice = test.0; says = test.1 }

in_item : (known : List ℕ → Bool) (item : Item) (f : Finding) → In f (item_twice known item) → Known known item f
in_item known (Reg r) f found = in_named known (Reg r) (record { name = r.name; at = r.at }) f refl found
in_item known (Window w) f found = in_named known (Window w) (record { name = w.name; at = w.at }) f refl found
in_item known (SkipTo to at) f found = absurd found
in_item known (Reserved words at) f found = absurd found

named_has : (known : List ℕ → Bool) (o : Option Named) (n : Named) (f : Finding) → o ≡ Some n → known n.name ≡ true → f ≡ finding 4 34 n.at n.name
    → In f (option_map_or (known_twice known) o [])
unfolding known_twice
named_has known None n f is h says = cc
named_has known (Some m) n f is h says = let same : n ≡ m = cc in subst (λ (k : Named). In f (known_twice known k)) same (when_has (known n.name) f (finding 4 34 n.at n.name) h says)

pub in_known_names : (known : List ℕ → Bool) (items : List Item) (f : Finding) → In f (names_twice known items) → KnownTwice known items f
unfolding names_twice
in_known_names known [] f among = absurd among
in_known_names known (i ∷ is) f among =
    elim (in_either f (item_twice known i) (names_twice (also i known) is) among) [
      | inl here ↦ let one = in_item known i f here in record {
        before = [];
        item = i;
        after = is;
        stands = refl;
        name = one.name;
        is_name = one.is_name;
        twice = or_false (known one.name.name) ∙ one.twice;
        says = one.says;
      }
      | inr there ↦ let rest = in_known_names (also i known) is f there in record {
        before = i ∷ rest.before;
        item = rest.item;
        after = rest.after;
        stands = ap (λ xs. i ∷ xs) rest.stands;
        name = rest.name;
        is_name = rest.is_name;
        twice = sym (or_turned (has_name rest.name.name i) (known rest.name.name) (list_any (has_name rest.name.name) rest.before)) ∙ rest.twice;
        says = rest.says;
      }
    ]

names_have_at : (known : List ℕ → Bool) (before : List Item) (item : Item) (after : List Item) (n : Named) (f : Finding) → name_of item ≡ Some n
    → (known n.name || list_any (has_name n.name) before) ≡ true → f ≡ finding 4 34 n.at n.name → In f (names_twice known (before ++ (item ∷ after)))
unfolding names_twice
names_have_at known [] item after n f is twice says =
    in_left f (item_twice known item) (names_twice (also item known) after) (named_has known (name_of item) n f is (sym (or_false (known n.name)) ∙ twice) says)
names_have_at known (i ∷ before) item after n f is twice says =
    in_right f (item_twice known i) (names_twice (also i known) (before ++ (item ∷ after)))
    (names_have_at (also i known) before item after n f is (or_turned (has_name n.name i) (known n.name) (list_any (has_name n.name) before) ∙ twice) says)

-- a name that comes twice among items is found where none is known before, and what is found is one
pub names_have : (items : List Item) (f : Finding) → ItemNameTwice items f → In f (names_twice none_known items)
names_have items f twice =
    subst (λ (xs : List Item). In f (names_twice none_known xs)) (sym twice.stands)
    (names_have_at none_known twice.before twice.item twice.after twice.name f twice.is_name twice.twice twice.says)

pub names_only : (items : List Item) (f : Finding) → In f (names_twice none_known items) → ItemNameTwice items f
names_only items f among =
    let known = in_known_names none_known items f among in
    record {
      before = known.before;
      item = known.item;
      after = known.after;
      stands = known.stands;
      name = known.name;
      is_name = known.is_name;
      twice = known.twice;
      says = known.says;
    }
