-- The table of keys of a completed top holds.
use Rattle.std.proofs.Common.{◌≡◌, true, [], ◌∷◌, None, option_map, codes, inl, inr, refl, sym, ap, ◌∙◌}
use Rattle.serde_json.specs.Data.{Data}
use Rattle.serde_json.specs.Find.{get}
use Rattle.cg_hjson.specs.declared.tree.Tree.{Tree}
use Rattle.cg_keys.specs.Table.{Key, may, needs, value_at}
use Rattle.cg_keys.specs.Values.{members_of}
use Rattle.cg_keys.specs.declared.forms.Form.TheVariants.{Items, Name, Object}
use Rattle.cg_topread.specs.Tables.{top_keys}
use Rattle.cg_blkdone.proofs.Lookups.{is_object, object_stays}
use Rattle.cg_blkdone.proofs.SoundCompleted.{PutFits, Puts, only_form}
use Rattle.cg_blkdone.proofs.SoundFields.{row_good}
use Rattle.cg_blkdone.proofs.SoundTables.{fits_one_told, key_good, table_good}
use Rattle.cg_blkdone.proofs.Told.{told}
use Rattle.cg_done.specs.FullTop.{full_clocks, full_pinmux, full_pinout, one_space, top_pairs}
use Rattle.cg_done.proofs.Lasts.{last_clocks, last_in_top, last_pinmux, last_pinout, top_at}
use Rattle.cg_done.proofs.SoundJudged.{part_fits, put_is, row_fits, value_fits}
use Rattle.cg_done.proofs.SoundParts.{object_row}

-- what completes objects to objects
abbrev KeepsObjects : (Tree → Data) → Type 0
KeepsObjects full = (v : Tree) → is_object (told v) ≡ true → is_object (full v) ≡ true

clocks_whole : KeepsObjects full_clocks
unfolding full_clocks
clocks_whole v is = object_stays _ (told v) is

pinout_whole : KeepsObjects full_pinout
unfolding full_pinout
pinout_whole v is = object_stays _ (told v) is

pinmux_whole : KeepsObjects full_pinmux
unfolding full_pinmux
pinmux_whole v is = object_stays _ (told v) is

-- a section that is completed where it is there is an object
section_fits : (t : Tree) (k : Key) (full : Tree → Data) → k.forms ≡ Object ∷ [] → KeepsObjects full → key_good k (get k.key (told t)) ≡ true
    → PutFits k (option_map full (value_at k.key (members_of t)))
section_fits t k full forms keeps row =
    part_fits k full (value_at k.key (members_of t))
    (λ v found.
    let before : is_object (told v) ≡ true = only_form Object (told v) (ap (λ fs. fits_one_told fs (told v)) (sym forms) ∙ row_fits k t v row found) in
    ap (λ fs. fits_one_told fs (full v)) forms ∙ object_row (full v) (keeps v before))

-- each value that is put has a form of its key
pub top_puts : (t : Tree) → table_good top_keys (told t) ≡ true → Puts top_keys (top_pairs (members_of t))
top_puts t rows =
    let ms = members_of t in
    let ps = top_pairs ms in
    let clocks = needs (codes "clocks") (Object ∷ []) in
    let spaces = may (codes "addr_spaces") (Items ∷ []) in
    let pinout = may (codes "pinout") (Object ∷ []) in
    let pinmux = may (codes "pinmux") (Object ∷ []) in
    let name_put = put_is (needs (codes "name") (Name ∷ [])) ps None (last_in_top (codes "name") ms) tt in
    let clocks_put = put_is clocks ps (option_map full_clocks (value_at (codes "clocks") ms)) (last_clocks ms)
    (section_fits t clocks full_clocks refl clocks_whole (row_good top_keys clocks (told t) (inr (inl refl)) rows)) in
    let resets_put = put_is (needs (codes "resets") (Object ∷ [])) ps None (last_in_top (codes "resets") ms) tt in
    let spaces_put = put_is spaces ps (top_at (codes "addr_spaces") ms) (last_in_top (codes "addr_spaces") ms)
    (value_fits spaces one_space t refl (row_good top_keys spaces (told t) (inr (inr (inr (inl refl)))) rows)) in
    let module_put = put_is (needs (codes "module") (Items ∷ [])) ps (top_at (codes "module") ms) (last_in_top (codes "module") ms) refl in
    let xbar_put = put_is (needs (codes "xbar") (Items ∷ [])) ps (top_at (codes "xbar") ms) (last_in_top (codes "xbar") ms) refl in
    let pinout_put = put_is pinout ps (option_map full_pinout (value_at (codes "pinout") ms)) (last_pinout ms)
    (section_fits t pinout full_pinout refl pinout_whole (row_good top_keys pinout (told t) (inr (inr (inr (inr (inr (inr (inl refl))))))) rows)) in
    let pinmux_put = put_is pinmux ps (option_map full_pinmux (value_at (codes "pinmux") ms)) (last_pinmux ms)
    (section_fits t pinmux full_pinmux refl pinmux_whole (row_good top_keys pinmux (told t) (inr (inr (inr (inr (inr (inr (inr (inl refl)))))))) rows)) in
    (name_put, (clocks_put, (resets_put, (spaces_put, (module_put, (xbar_put, (pinout_put, (pinmux_put, tt))))))))
