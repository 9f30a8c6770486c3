-- What tables of keys find together.
use Rattle.std.proofs.Common.{◌≡◌, ℕ, List, ◌++◌, Option, Some, None, ap, refl, sym, ◌∙◌}
use Rattle.std.proofs.lemmas.Grind.{flat_map-append}
use Rattle.cg_desc.specs.declared.place.At.{At}
use Rattle.cg_finding.specs.Finding.{Finding, earlier, first_of}
use Rattle.cg_finding.proofs.Firsts.{first_of-append}
use Rattle.cg_hjson.specs.declared.tree.Member.{Member}
use Rattle.cg_hjson.specs.declared.tree.Tree.{Tree}
use Rattle.cg_keys.specs.Elements.{in_object, object_faults}
use Rattle.cg_keys.specs.Table.{Key, key_faults}
use Rattle.cg_keys.specs.Values.{object_in}
use Rattle.cg_blkread.specs.Keys.{objects_faults}

in_object-append : (opener : At) (ks more : List Key) (o : Option (List Member)) → in_object opener (ks ++ more) o ≡ in_object opener ks o ++ in_object opener more o
in_object-append opener ks more None = refl
in_object-append opener ks more (Some ms) = flat_map-append (key_faults opener ms) ks more

-- the keys of two tables find what each of them finds
pub object_faults_append : (ks more : List Key) (t : Tree) → object_faults (ks ++ more) t ≡ object_faults ks t ++ object_faults more t
unfolding object_faults
object_faults_append ks more t = in_object-append t.at ks more (object_in t)

-- the first of two lists, by the first of each
pub merged : (fs gs : List Finding) (a b r : Option Finding) → r ≡ earlier a b → a ≡ first_of fs → b ≡ first_of gs → r ≡ first_of (fs ++ gs)
merged fs gs a b r is left right = is ∙ (λ i. earlier (left i) (right i)) ∙ sym (first_of-append fs gs)

-- what is first in a list of objects, by the rows of its table
pub by_rows : (key : List ℕ) (rows keys : List Key) (ms : List Member) (o : Option Finding) → o ≡ first_of (objects_faults key rows ms) → rows ≡ keys
    → o ≡ first_of (objects_faults key keys ms)
by_rows key rows keys ms o is are = is ∙ ap (λ ks. first_of (objects_faults key ks ms)) are
