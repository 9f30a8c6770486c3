-- Which crossbars a node joins, and of which spaces they are, as it is tested.
use Rattle.std.proofs.Common.{◌≡◌, ℕ, Bool, true, false, not, ◌&&◌, List, Some, sym, ap, subst, ◌∙◌}
use Rattle.std.specs.Bool.{Decides}
use Rattle.std.specs.List.{list_any, slice_get}
use Rattle.std.specs.Str.{bytes_eq}
use Rattle.std.proofs.lemmas.Slice.Eq.{bytes_eq-Decides}
use Rattle.cg_svspec.specs.Names.{Among}
use Rattle.cg_desc.specs.Ends.{CrossbarIs, Joins}
use Rattle.cg_desc.specs.Top.{Design}
use Rattle.cg_desc.specs.declared.crossbar.NodeDesc.{NodeDesc}
use Rattle.cg_desc.specs.declared.crossbar.XbarDesc.{XbarDesc}
use Rattle.cg_desc.specs.declared.top.XbarUse.{XbarUse}
use Rattle.cg_desc.proofs.Numbered.{item_among, item_number, one_passes, passes_one, same_item}
use Rattle.cg_merge.specs.Nodes.{IsElsewhere, is_partner, joins}
use Rattle.cg_merge.proofs.Repeats.{decides_any, decides_as, decides_both, decides_direction}
use Rattle.cg_merge.proofs.TopRules.{decides_not}

-- that a thing is so
decides_true : (b : Bool) → Decides b (b ≡ true)
decides_true b = (λ is. is, λ is. is)

-- a partner of a node in this crossbar
abbrev IsPartner : List ℕ → NodeDesc → NodeDesc → Type 0
IsPartner outer node partner = (partner.xbar ≡ true) × ((partner.host ≡ not node.host) × (partner.name ≡ outer))

decides_partner : (outer : List ℕ) (node partner : NodeDesc) → Decides (is_partner outer node partner) (IsPartner outer node partner)
unfolding is_partner
decides_partner outer node partner = decides_both _ _ (decides_true partner.xbar) (decides_both _ _ (decides_direction (not node.host) partner.host) (bytes_eq-Decides partner.name outer))

module _ (d : Design) (x : ℕ) (node : NodeDesc) (outer : XbarDesc) (is : CrossbarIs d x outer) (nested : node.xbar ≡ true) where
  -- a crossbar passes where the node joins it
  pub decides_joins : (y : ℕ) (inner : XbarDesc) → CrossbarIs d y inner → Decides (joins outer.name node inner) (Joins d x node y)
  unfolding joins
  decides_joins y inner there =
      decides_as _ (decides_both _ _ (bytes_eq-Decides node.name inner.name) (decides_any (is_partner outer.name node) inner.nodes (decides_partner outer.name node))) to from where
        to : (node.name ≡ inner.name) × ((k : ℕ) × (p : NodeDesc) × (slice_get inner.nodes k ≡ Some p) × IsPartner outer.name node p) → Joins d x node y
        to (named, (k, p, at, (facing, (host, name)))) = record {
          nested = nested;
          outer = outer;
          outer_is = is;
          inner = inner;
          inner_is = there;
          names = named;
          partner = p;
          partner_there = item_among inner.nodes k p at;
          partner_nested = facing;
          partner_faces = host;
          partner_names = name;
        }

        from : Joins d x node y → (node.name ≡ inner.name) × ((k : ℕ) × (p : NodeDesc) × (slice_get inner.nodes k ≡ Some p) × IsPartner outer.name node p)
        from j =
            let in_same : j.inner ≡ inner = same_item d.xbars y j.inner inner j.inner_is there in
            let out_same : j.outer ≡ outer = same_item d.xbars x j.outer outer j.outer_is is in
            let among = subst (λ (b : XbarDesc). Among j.partner b.nodes) in_same j.partner_there in
            let at = item_number inner.nodes j.partner among in
            (j.names ∙ ap (λ (b : XbarDesc). b.name) in_same, (at.0, j.partner, at.1, (j.partner_nested, (j.partner_faces, j.partner_names ∙ ap (λ (b : XbarDesc). b.name) out_same))))

  -- the node joins none where none passes
  pub decides_alone : Decides (not (list_any (joins outer.name node) d.xbars)) ((y : ℕ) → Joins d x node y → ⊥)
  decides_alone =
      decides_as _ (decides_not (list_any (joins outer.name node) d.xbars) here) (λ none y j. none (y, j)) (λ none one. none one.0 one.1) where
        here : Decides (list_any (joins outer.name node) d.xbars) ((y : ℕ) × Joins d x node y)
        here = (
          λ passes. let one = one_passes (joins outer.name node) d.xbars passes in (one.0, (decides_joins one.0 one.1 one.2).0 one.3),
          λ joined. passes_one (joins outer.name node) d.xbars joined.0 joined.1.inner joined.1.inner_is ((decides_joins joined.0 joined.1.inner joined.1.inner_is).1 joined.1),
        )

-- ---- another space

-- a listed crossbar that the node names is of another space
pub decides_elsewhere : (d : Design) (x : ℕ) (node : NodeDesc) (outer : XbarUse) → slice_get d.top.xbars x ≡ Some outer → node.host ≡ false → node.xbar ≡ true
    → Decides (list_any (λ u. bytes_eq u.name node.name && not (bytes_eq u.space outer.space)) d.top.xbars) (IsElsewhere d x node)
decides_elsewhere d x node outer is device nested =
    decides_as _
    (decides_any (λ (u : XbarUse). bytes_eq u.name node.name && not (bytes_eq u.space outer.space)) d.top.xbars
    (λ (u : XbarUse). decides_both _ _ (bytes_eq-Decides u.name node.name) (decides_not _ (bytes_eq-Decides u.space outer.space)))) to from where
      to : (k : ℕ) × (u : XbarUse) × (slice_get d.top.xbars k ≡ Some u) × ((u.name ≡ node.name) × (¬ (u.space ≡ outer.space))) → IsElsewhere d x node
      to (k, u, at, (named, differ)) = record {
        outer = outer;
        inner = u;
        device = device;
        nested = nested;
        listed = is;
        among = item_among d.top.xbars k u at;
        named = named;
        differ = λ e. differ (sym e);
      }

      from : IsElsewhere d x node → (k : ℕ) × (u : XbarUse) × (slice_get d.top.xbars k ≡ Some u) × ((u.name ≡ node.name) × (¬ (u.space ≡ outer.space)))
      from e =
          let at = item_number d.top.xbars e.inner e.among in
          let same : e.outer ≡ outer = same_item d.top.xbars x e.outer outer e.listed is in
          (at.0, e.inner, at.1, (e.named, λ alike. e.differ (ap (λ (u : XbarUse). u.space) same ∙ sym alike)))
