-- The types of instances that are names are those of their descriptions.
use Rattle.std.proofs.Common.{◌≡◌, ◌≤◌, List, [], ◌∷◌, ◌++◌, map, length, Some, inl, inr, refl, sym, ap, subst, ◌∙◌}
use Rattle.std.specs.Option.{option_to_list}
use Rattle.cg_svspec.specs.Names.{Among}
use Rattle.cg_desc.specs.Top.{FewTypes, type_uses}
use Rattle.cg_hjson.specs.declared.tree.Tree.{Tree}
use Rattle.cg_nodes.specs.Listed.{new_names}
use Rattle.cg_topread.specs.Described.{instance_in}
use Rattle.cg_topread.specs.Types.{type_count, type_in, types_in, types_of}
use Rattle.cg_topread.proofs.TypesOnce.{types_one}

-- each instance has a type that is a name
abbrev pub AllTyped : List Tree → Type 0
AllTyped items = (t : Tree) → Among t items → type_in t ≡ Some (instance_in t).kind

same_uses : (items : List Tree) → AllTyped items → type_uses (map instance_in items) ≡ types_in items
unfolding types_in
same_uses [] each = refl
same_uses (t ∷ ts) each =
    (λ i. (instance_in t).kind ∷ same_uses ts (λ u among. each u (inr among)) i)
    ∙ ap (λ o. option_to_list o ++ types_in ts) (sym (each t (inl refl)))

pub few_types : (items : List Tree) → AllTyped items → type_count items ≤ 64 → FewTypes (map instance_in items)
unfolding type_count types_of
few_types items each few types are =
    subst (λ ts. length ts ≤ 64) (sym (types_one (map instance_in items) types are ∙ ap (new_names []) (same_uses items each))) few
