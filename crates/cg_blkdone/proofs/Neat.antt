-- JSON values whose members stand in the strict order of their keys: a document that says such a value tells it.
use Rattle.std.proofs.Common.{◌≡◌, ℕ, ℤ, pos, negsuc, false, List, [], ◌∷◌, ◌++◌, Ordering, Less, Equal, Greater, bytes_eq, is_eq, refl, sym, ap, ◌∙◌}
use Rattle.std.proofs.lemmas.Cmp.{nat_list_cmp_total}
use Rattle.std.proofs.lemmas.Map.Text.{is_eq-slice_cmp}
use Rattle.std.specs.List.{AllByRecursion, IsDistinct}
use Rattle.std.specs.Ordering.{ordering_reverse}
use Rattle.serde_json.specs.Data.{Data, Items, Members, array, item, member, no_items, no_members, number, object, put}
use Rattle.serde_json.specs.Data as json
use Rattle.serde_json.specs.Find.{of_integer}
use Rattle.serde_json.specs.View.{items_of as json_items_of}
use Rattle.cg_docspec.specs.Tree as document
use Rattle.cg_hjson.specs.Json.{Everywhere, HasKeysOnce, InMembers, InTrees, WithinKind, json_items, json_kind, json_members, json_of, keys}
use Rattle.cg_jsonspec.specs.Said.{number_kind, said_items, said_kind, said_members}
use Rattle.cg_blkdone.specs.Full.{Pair, list_of, put_all, with_all}
use Rattle.cg_blkdone.proofs.Puts.{cmp}

-- the key is below the first
abbrev pub Below : List ℕ → Members → Type 0
Below k no_members = Unit {0}
Below k (member l e ms) = cmp k l ≡ Less

unfoldable mutual
  -- members stand in strict order, and numbers are those of documents
  pub IsNeat : Data → Type 0
  IsNeat json.null = Unit {0}
  IsNeat (json.boolean b) = Unit {0}
  IsNeat (number x) = json_kind (number_kind x) ≡ number x
  IsNeat (json.string s) = Unit {0}
  IsNeat (array ds) = AreNeatItems ds
  IsNeat (object ms) = AreNeat ms

  pub AreNeatItems : Items → Type 0
  AreNeatItems no_items = Unit {0}
  AreNeatItems (item d ds) = IsNeat d × AreNeatItems ds

  pub AreNeat : Members → Type 0
  AreNeat no_members = Unit {0}
  AreNeat (member k d ms) = IsNeat d × Below k ms × AreNeat ms

-- ---- what is neat

turned : (k l : List ℕ) (o : Ordering) → cmp k l ≡ o → cmp l k ≡ ordering_reverse o
turned k l o e = nat_list_cmp_total.antisymm l k ∙ ap ordering_reverse e

below_at : (o : Ordering) (j k l : List ℕ) (d e : Data) (ms : Members) → cmp k l ≡ o → cmp j k ≡ Less → cmp j l ≡ Less → Below j (put k d (member l e ms))
below_at Less j k l d e ms is first second = rw is first
below_at Equal j k l d e ms is first second = rw is second
below_at Greater j k l d e ms is first second = rw is second

below_put : (j k : List ℕ) (d : Data) (ms : Members) → cmp j k ≡ Less → Below j ms → Below j (put k d ms)
below_put j k d no_members first below = first
below_put j k d (member l e ms) first below = below_at (cmp k l) j k l d e ms refl first below

put_at : (o : Ordering) (k l : List ℕ) (d e : Data) (ms : Members) → cmp k l ≡ o → IsNeat d → AreNeat (member l e ms) → AreNeat (put k d ms) → AreNeat (put k d (member l e ms))
unfolding AreNeat
put_at Less k l d e ms is neat rest more = rw is (neat, is, rest)
put_at Equal k l d e ms is neat rest more = rw is (neat, rest.1, rest.2)
put_at Greater k l d e ms is neat rest more = rw is (rest.0, below_put l k d ms (turned k l Greater is) rest.1, more)

put_neat : (k : List ℕ) (d : Data) (ms : Members) → IsNeat d → AreNeat ms → AreNeat (put k d ms)
unfolding AreNeat
put_neat k d no_members neat rest = (neat, tt, tt)
put_neat k d (member l e ms) neat rest = put_at (cmp k l) k l d e ms refl neat rest (put_neat k d ms neat rest.2)

number_neat : (n : ℤ) → json_kind (number_kind (of_integer n)) ≡ number (of_integer n)
unfolding json_kind
number_neat (pos n) = refl
number_neat (negsuc n) = refl

mutual
  unfolding json_of json_kind json_items json_members IsNeat AreNeatItems AreNeat

  -- what a document tells
  pub told_neat : (t : document.Tree) → IsNeat (json_of t)
  told_neat (document.tree kind at) = kind_neat kind

  kind_neat : (k : document.Kind) → IsNeat (json_kind k)
  kind_neat document.null = tt
  kind_neat (document.boolean b) = tt
  kind_neat (document.integer n) = number_neat n
  kind_neat (document.string u) = tt
  kind_neat (document.array ts) = trees_neat ts
  kind_neat (document.object ms) = members_neat ms

  trees_neat : (ts : document.Trees) → AreNeatItems (json_items ts)
  trees_neat document.no_trees = tt
  trees_neat (document.tree_and t ts) = (told_neat t, trees_neat ts)

  members_neat : (ms : document.Members) → AreNeat (json_members ms)
  members_neat document.no_members = tt
  members_neat (document.member_and key at t ms) = put_neat key (json_of t) (json_members ms) (told_neat t) (members_neat ms)

-- each value of the pairs is neat
abbrev pub PairsNeat : List Pair → Type 0
PairsNeat [] = Unit {0}
PairsNeat (p ∷ ps) = IsNeat p.value × PairsNeat ps

-- pairs of both lists
pub pairs_neat : (ps qs : List Pair) → PairsNeat ps → PairsNeat qs → PairsNeat (ps ++ qs)
pairs_neat [] qs a b = b
pairs_neat (p ∷ ps) qs a b = (a.0, pairs_neat ps qs a.1 b)

put_all_neat : (ps : List Pair) (ms : Members) → PairsNeat ps → AreNeat ms → AreNeat (put_all ps ms)
put_all_neat [] ms all rest = rest
put_all_neat (p ∷ ps) ms all rest = put_all_neat ps (put p.key p.value ms) all.1 (put_neat p.key p.value ms all.0 rest)

-- what is completed by such pairs
pub with_all_neat : (ps : List Pair) (d : Data) → PairsNeat ps → IsNeat d → IsNeat (with_all ps d)
unfolding with_all IsNeat
with_all_neat ps json.null all is = is
with_all_neat ps (json.boolean b) all is = is
with_all_neat ps (number n) all is = is
with_all_neat ps (json.string s) all is = is
with_all_neat ps (array ds) all is = is
with_all_neat ps (object ms) all is = put_all_neat ps ms all is

-- each value of a list is neat
abbrev pub AllNeat : List Data → Type 0
AllNeat [] = Unit {0}
AllNeat (d ∷ ds) = IsNeat d × AllNeat ds

items_neat : (ds : List Data) → AllNeat ds → AreNeatItems (json_items_of ds)
unfolding AreNeatItems
items_neat [] all = tt
items_neat (d ∷ ds) all = (all.0, items_neat ds all.1)

-- a list of such values
pub list_neat : (ds : List Data) → AllNeat ds → IsNeat (list_of ds)
unfolding IsNeat
list_neat ds all = items_neat ds all

-- ---- what is neat is told as it is

first_again : (k : List ℕ) (d : Data) (ms : Members) → Below k ms → put k d ms ≡ member k d ms
first_again k d no_members below = refl
first_again k d (member l e ms) below = rw below refl

mutual
  unfolding json_of json_kind json_items json_members said_kind said_items said_members IsNeat AreNeatItems AreNeat

  -- the document that says it tells it
  pub neat_told : (d : Data) → IsNeat d → json_kind (said_kind d) ≡ d
  neat_told json.null neat = refl
  neat_told (json.boolean b) neat = refl
  neat_told (number x) neat = neat
  neat_told (json.string s) neat = refl
  neat_told (array ds) neat = ap array (items_told ds neat)
  neat_told (object ms) neat = ap object (members_told ms neat)

  items_told : (ds : Items) → AreNeatItems ds → json_items (said_items ds) ≡ ds
  items_told no_items neat = refl
  items_told (item d ds) neat = λ i. item (neat_told d neat.0 i) (items_told ds neat.1 i)

  members_told : (ms : Members) → AreNeat ms → json_members (said_members ms) ≡ ms
  members_told no_members neat = refl
  members_told (member k d ms) neat = (λ i. put k (neat_told d neat.0 i) (members_told ms neat.2 i)) ∙ first_again k d ms neat.1

-- ---- and has each key once

below_all : (k : List ℕ) (ms : Members) → Below k ms → AreNeat ms → AllByRecursion (λ l. bytes_eq k l ≡ false) (keys (said_members ms))
unfolding AreNeat said_members
below_all k no_members below neat = tt
below_all k (member l e ms) below neat =
    let other : bytes_eq k l ≡ false = sym (is_eq-slice_cmp k l) ∙ ap is_eq below in
    (other, below_all k ms (below_next k l ms below neat.1) neat.2) where
      below_next : (k l : List ℕ) (ms : Members) → cmp k l ≡ Less → Below l ms → Below k ms
      below_next k l no_members first second = tt
      below_next k l (member m f ms) first second = nat_list_cmp_total.trans k l m first second

keys_once : (ms : Members) → AreNeat ms → IsDistinct bytes_eq (keys (said_members ms))
unfolding AreNeat said_members IsDistinct
keys_once no_members neat = tt
keys_once (member k d ms) neat = (below_all k ms neat.1 neat.2, keys_once ms neat.2)

number_differs : (x : json.Num) → HasKeysOnce (number_kind x) × WithinKind HasKeysOnce (number_kind x)
unfolding WithinKind
number_differs (json.unsigned n) = (tt, tt)
number_differs (json.negative z) = (tt, tt)
number_differs (json.float x) = (tt, tt)

mutual
  unfolding said_kind said_items said_members IsNeat AreNeatItems AreNeat Everywhere WithinKind InTrees InMembers

  -- no object of the document that says it has a key twice
  pub neat_differs : (d : Data) → IsNeat d → HasKeysOnce (said_kind d) × WithinKind HasKeysOnce (said_kind d)
  neat_differs json.null neat = (tt, tt)
  neat_differs (json.boolean b) neat = (tt, tt)
  neat_differs (number x) neat = number_differs x
  neat_differs (json.string s) neat = (tt, tt)
  neat_differs (array ds) neat = (tt, items_differ ds neat)
  neat_differs (object ms) neat = (keys_once ms neat, members_differ ms neat)

  items_differ : (ds : Items) → AreNeatItems ds → InTrees HasKeysOnce (said_items ds)
  items_differ no_items neat = tt
  items_differ (item d ds) neat = (neat_differs d neat.0, items_differ ds neat.1)

  members_differ : (ms : Members) → AreNeat ms → InMembers HasKeysOnce (said_members ms)
  members_differ no_members neat = tt
  members_differ (member k d ms) neat = (neat_differs d neat.0, members_differ ms neat.2)
