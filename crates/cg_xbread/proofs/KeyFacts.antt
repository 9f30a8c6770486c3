-- What a crossbar breaks of the rules on keys, kinds and names is what is found.
use Rattle.std.proofs.Common.{◌≡◌, ℕ, Bool, true, false, not, ◌||◌, cond, List, [], ◌∷◌, ◌++◌, Option, Some, None, inl, inr, refl, sym, ap, subst, ◌∙◌}
use Rattle.std.specs.List.{flat_map, list_any}
use Rattle.std.specs.Option.{option_map_or}
use Rattle.std.specs.Prelude.{codes}
use Rattle.cg_desc.specs.declared.place.At.{At}
use Rattle.cg_finding.specs.Finding.{Finding, In, finding}
use Rattle.cg_finding.proofs.Members.{flat_map_has, in_either, in_flat_map, in_left, in_right, in_unless, unless_has}
use Rattle.cg_hjson.specs.declared.tree.Tree.{Tree}
use Rattle.cg_hjson.specs.declared.tree.Member.{Member}
use Rattle.cg_keys.specs.Duplicates.{duplicate_faults}
use Rattle.cg_keys.specs.Elements.{each_faults, element_faults, elements, in_object, item_faults, length_faults, list_faults, object_faults}
use Rattle.cg_keys.specs.Forms.{fits, fits_one, rule_broken, takes}
use Rattle.cg_keys.specs.Table.{table_faults, value_at, value_faults}
use Rattle.cg_keys.specs.Values.{members_of, object_in, or_empty, text_in}
use Rattle.cg_keys.specs.declared.forms.Form.TheVariants as form
use Rattle.cg_keys.proofs.DuplicateKeys.{duplicate_faults_has, in_duplicate_faults}
use Rattle.cg_keys.proofs.Relation.{in_table_faults, table_faults_has}
use Rattle.cg_keys.specs.Lists.{first_members}
use Rattle.cg_xbread.specs.Listed.{connection_faults, key_faults, is_node_name, node_faults, node_members_faults, node_name_faults}
use Rattle.cg_xbread.specs.Tables.{crossbar_keys, node_keys, range_keys}
use Rattle.cg_xbread.specs.Violations as fact
use Rattle.cg_keys.specs.Lists.{WrongElement, WrongForm}
use Rattle.cg_xbread.specs.Violations.{BadNodeName, BreaksKeys, BreaksNode, BreaksRange}
use Rattle.cg_xbread.specs.Written.{connections_of}
use Rattle.cg_keys.proofs.FirstMembers.{First, Found, first_is_found, found_is_first}
use Rattle.cg_keys.proofs.ListFacts.{elements_have, in_elements, in_item_faults, in_length_faults, in_list_faults, in_object_keys, item_faults_has, length_faults_has, list_faults_has, object_keys_has}
use Rattle.cg_xbread.proofs.NodeNames.{is_name_of_node, no_name_of_node}

-- ---- nodes

in_node_name : (ms : List Member) (f : Finding) → In f (option_map_or node_name_faults (value_at (codes "name") ms) []) → BadNodeName ms f
unfolding node_name_faults
in_node_name ms f among = by (value_at (codes "name") ms) refl among
  where
    text : (value : Tree) → value_at (codes "name") ms ≡ Some value → (o : Option (List ℕ)) → text_in value ≡ o
        → In f (option_map_or (λ s. cond (is_node_name s) [] (finding 2 25 value.at (codes "name") ∷ [])) o []) → BadNodeName ms f
    text value there None is h = absurd h
    text value there (Some s) is h =
        let unless = in_unless (is_node_name s) f (finding 2 25 value.at (codes "name")) h in
        record { value = value; there = there; text = s; is_text = is; bad = no_name_of_node s unless.0; says = unless.1 }

    by : (v : Option Tree) → value_at (codes "name") ms ≡ v → In f (option_map_or node_name_faults v []) → BadNodeName ms f
    by None is h = absurd h
    by (Some value) is h = text value is (text_in value) refl h

node_name_has : (ms : List Member) (f : Finding) → BadNodeName ms f → In f (option_map_or node_name_faults (value_at (codes "name") ms) [])
unfolding node_name_faults
node_name_has ms f b =
    subst (λ (v : Option Tree). In f (option_map_or node_name_faults v [])) (sym b.there)
    (subst (λ (o : Option (List ℕ)). In f (option_map_or (λ s. cond (is_node_name s) [] (finding 2 25 b.value.at (codes "name") ∷ [])) o [])) (sym b.is_text)
    (unless_has (is_node_name b.text) f (finding 2 25 b.value.at (codes "name")) (is_name_of_node b.text b.bad) b.says))

in_node_members : (opener : At) (ms : List Member) (f : Finding) → In f (node_members_faults ms) → BreaksNode opener ms f
unfolding node_members_faults
in_node_members opener ms f among =
    elim (in_either f (option_map_or node_name_faults (value_at (codes "name") ms) []) _ among) [
      | inl name ↦ fact.bad_name (in_node_name ms f name)
      | inr rest ↦ elim (in_either f (length_faults 0 16 (codes "addr_range") ms) _ rest) [
        | inl length ↦ fact.many_ranges (in_length_faults 16 ms (codes "addr_range") f length)
        | inr rest ↦ elim (in_either f (element_faults (codes "addr_range") ms) (each_faults range_keys (elements (codes "addr_range") ms)) rest) [
          | inl kind ↦ fact.no_range (in_item_faults form.Object ms (codes "addr_range") f kind)
          | inr ranges ↦ fact.in_range (in_elements BreaksRange (object_faults range_keys) ms (codes "addr_range") f (in_object_keys range_keys f) ranges)
        ]
      ]
    ]

node_members_has : (opener : At) (ms : List Member) (f : Finding) → BreaksNode opener ms f → In f (table_faults opener ms node_keys ++ node_members_faults ms)
unfolding node_members_faults
node_members_has opener ms f (fact.keys b) = in_left f (table_faults opener ms node_keys) _ (table_faults_has opener ms node_keys f b)
node_members_has opener ms f (fact.bad_name b) = in_right f (table_faults opener ms node_keys) _ (in_left f _ _ (node_name_has ms f b))
node_members_has opener ms f (fact.many_ranges b) =
    in_right f (table_faults opener ms node_keys) _ (in_right f (option_map_or node_name_faults (value_at (codes "name") ms) []) _
    (in_left f _ _ (length_faults_has 16 ms (codes "addr_range") f b)))
node_members_has opener ms f (fact.no_range b) =
    in_right f (table_faults opener ms node_keys) _ (in_right f (option_map_or node_name_faults (value_at (codes "name") ms) []) _
    (in_right f (length_faults 0 16 (codes "addr_range") ms) _ (in_left f _ _ (item_faults_has form.Object ms (codes "addr_range") f b))))
node_members_has opener ms f (fact.in_range b) =
    in_right f (table_faults opener ms node_keys) _ (in_right f (option_map_or node_name_faults (value_at (codes "name") ms) []) _
    (in_right f (length_faults 0 16 (codes "addr_range") ms) _ (in_right f (element_faults (codes "addr_range") ms) _
    (elements_have BreaksRange (object_faults range_keys) ms (codes "addr_range") f (object_keys_has range_keys f) b))))

-- what a node breaks, by what it is
abbrev in_node : Tree → Option (List Member) → List Finding
in_node t o = in_object t.at node_keys o ++ node_members_faults (or_empty o)

no_members_broken : (f : Finding) → In f (node_members_faults []) → ⊥
unfolding node_members_faults value_at length_faults item_faults elements
no_members_broken f among = absurd among

in_node_faults : (f : Finding) (t : Tree) → In f (node_faults t) → (inner : List Member) × (object_in t ≡ Some inner) × BreaksNode t.at inner f
unfolding node_faults object_faults
in_node_faults f t among = by (object_in t) refl among
  where
    by : (o : Option (List Member)) → object_in t ≡ o → In f (in_node t o) → (inner : List Member) × (object_in t ≡ Some inner) × BreaksNode t.at inner f
    by None is h = absurd (no_members_broken f h)
    by (Some ms) is h = (
      ms,
      is,
      elim (in_either f (table_faults t.at ms node_keys) (node_members_faults ms) h) [
        | inl table ↦ fact.keys (in_table_faults t.at ms node_keys f table)
        | inr rest ↦ in_node_members t.at ms f rest
      ],
    )

node_faults_has : (f : Finding) (t : Tree) (inner : List Member) → object_in t ≡ Some inner → BreaksNode t.at inner f → In f (node_faults t)
unfolding node_faults object_faults
node_faults_has f t inner is breaks = subst (λ (o : Option (List Member)). In f (in_node t o)) (sym is) (node_members_has t.at inner f breaks)

-- ---- connections

pub data Connection (ms : List Member) (f : Finding) : Type 0 where
  no_list : (host : List ℕ) → WrongForm form.Items ms host f → Connection ms f
  no_text : (host : List ℕ) → WrongElement form.Text ms host f → Connection ms f

one_form : (list : Tree) (b : Bool) → fits_one (form.Items ∷ []) list ≡ b → fits form.Items list ≡ b
one_form list b is = or_false (fits form.Items list) ∙ is
  where
    or_false : (a : Bool) → a ≡ (a || false)
    or_false true = refl
    or_false false = refl

rule_of_list : (list : Tree) → rule_broken (form.Items ∷ []) list ≡ 22
unfolding rule_broken
rule_of_list list = same (list_any (λ f. takes f list) (form.Items ∷ [])) 22
  where
    same : (b : Bool) (n : ℕ) → cond (not b) n n ≡ n
    same true n = refl
    same false n = refl

in_connection : (ms : List Member) (f : Finding) → In f (flat_map connection_faults (first_members ms)) → Connection ms f
unfolding connection_faults value_faults
in_connection ms f among =
    let one = in_flat_map connection_faults (first_members ms) f among in
    let m = one.item in
    let found : Found [] ms m = first_is_found [] ms m one.among in
    elim (in_either f (value_faults m.key (form.Items ∷ []) m.value) (list_faults form.Text m.key m.value) one.found) [
      | inl kind ↦ let unless = in_unless (fits_one (form.Items ∷ []) m.value) f _ kind in
          no_list m.key (record { value = m.value; there = found.there; unfit = one_form m.value false unless.0; says = unless.1 ∙ ap (λ r. finding 2 r m.value.at m.key) (rule_of_list m.value) })
      | inr text ↦ no_text m.key (in_list_faults form.Text ms m.key f m.value found.there text)
    ]

connection_has : (ms : List Member) (f : Finding) → Connection ms f → In f (flat_map connection_faults (first_members ms))
unfolding connection_faults value_faults
connection_has ms f (no_list host w) =
    let first : First host w.value (first_members ms) = found_is_first [] ms host w.value refl w.there in
    let m = first.member in
    let unfit : fits_one (form.Items ∷ []) m.value ≡ false = ap (λ v. fits_one (form.Items ∷ []) v) first.value_is ∙ sym (one_form w.value (fits_one (form.Items ∷ []) w.value) refl) ∙ w.unfit in
    flat_map_has connection_faults (first_members ms) m f first.among
    (in_left f _ (list_faults form.Text m.key m.value)
    (unless_has (fits_one (form.Items ∷ []) m.value) f (finding 2 (rule_broken (form.Items ∷ []) m.value) m.value.at m.key) unfit
    (w.says ∙ (λ i. finding 2 (sym (rule_of_list m.value) i) (sym first.value_is i).at (sym first.key_is i)))))
connection_has ms f (no_text host w) =
    let first : First host w.list (first_members ms) = found_is_first [] ms host w.list refl w.there in
    let m = first.member in
    flat_map_has connection_faults (first_members ms) m f first.among
    (in_right f (value_faults m.key (form.Items ∷ []) m.value) _
    (subst (λ (t : Tree). In f (list_faults form.Text m.key t)) (sym first.value_is)
    (subst (λ key. In f (list_faults form.Text key w.list)) (sym first.key_is)
    (list_faults_has form.Text host w.list w.element f w.among w.unfit w.says))))

-- ---- the crossbar

pub in_key_faults : (t : Tree) (f : Finding) → In f (key_faults t) → BreaksKeys t f
unfolding key_faults
in_key_faults t f among =
    elim (in_either f (duplicate_faults t) _ among) [
      | inl duplicate ↦ fact.duplicate (in_duplicate_faults t f duplicate)
      | inr rest ↦ elim (in_either f (table_faults t.at (members_of t) (crossbar_keys (members_of t))) _ rest) [
        | inl table ↦ fact.keys (in_table_faults t.at (members_of t) (crossbar_keys (members_of t)) f table)
        | inr rest ↦ elim (in_either f (length_faults 0 64 (codes "nodes") (members_of t)) _ rest) [
          | inl length ↦ fact.many_nodes (in_length_faults 64 (members_of t) (codes "nodes") f length)
          | inr rest ↦ elim (in_either f (element_faults (codes "nodes") (members_of t)) _ rest) [
            | inl kind ↦ fact.no_node (in_item_faults form.Object (members_of t) (codes "nodes") f kind)
            | inr rest ↦ elim (in_either f (flat_map node_faults (elements (codes "nodes") (members_of t))) (flat_map connection_faults (first_members (connections_of t))) rest) [
              | inl nodes ↦ fact.in_node (in_elements BreaksNode node_faults (members_of t) (codes "nodes") f (in_node_faults f) nodes)
              | inr connections ↦ of_connection (in_connection (connections_of t) f connections)
            ]
          ]
        ]
      ]
    ]
  where
    of_connection : Connection (connections_of t) f → BreaksKeys t f
    of_connection (no_list host w) = fact.no_list host w
    of_connection (no_text host w) = fact.no_text host w

pub key_faults_has : (t : Tree) (f : Finding) → BreaksKeys t f → In f (key_faults t)
unfolding key_faults
key_faults_has t f breaks = by breaks
  where
    nodes : List Tree
    nodes = elements (codes "nodes") (members_of t)

    table : List Finding
    table = table_faults t.at (members_of t) (crossbar_keys (members_of t))

    length : List Finding
    length = length_faults 0 64 (codes "nodes") (members_of t)

    kinds : List Finding
    kinds = element_faults (codes "nodes") (members_of t)

    inner : List Finding
    inner = flat_map node_faults nodes

    connections : List Finding
    connections = flat_map connection_faults (first_members (connections_of t))

    whole : List Finding
    whole = duplicate_faults t ++ (table ++ (length ++ (kinds ++ (inner ++ connections))))

    of_connection : Connection (connections_of t) f → In f whole
    of_connection w =
        in_right f (duplicate_faults t) _ (in_right f table _ (in_right f length _ (in_right f kinds _ (in_right f inner connections (connection_has (connections_of t) f w)))))

    by : BreaksKeys t f → In f whole
    by (fact.duplicate b) = in_left f (duplicate_faults t) _ (duplicate_faults_has t f b)
    by (fact.keys b) = in_right f (duplicate_faults t) _ (in_left f table _ (table_faults_has t.at (members_of t) (crossbar_keys (members_of t)) f b))
    by (fact.many_nodes b) = in_right f (duplicate_faults t) _ (in_right f table _ (in_left f length _ (length_faults_has 64 (members_of t) (codes "nodes") f b)))
    by (fact.no_node b) =
        in_right f (duplicate_faults t) _ (in_right f table _ (in_right f length _ (in_left f kinds _ (item_faults_has form.Object (members_of t) (codes "nodes") f b))))
    by (fact.in_node b) =
        in_right f (duplicate_faults t) _ (in_right f table _ (in_right f length _ (in_right f kinds _ (in_left f inner connections
        (elements_have BreaksNode node_faults (members_of t) (codes "nodes") f (node_faults_has f) b)))))
    by (fact.no_list host b) = of_connection (no_list host b)
    by (fact.no_text host b) = of_connection (no_text host b)
