-- Completed instances break no rule.
use Rattle.std.proofs.Common.{◌≡◌, ℕ, true, List, [], ◌∷◌, Option, Some, None, option_map, option_and_then, codes, inl, inr, refl, sym, ap, ◌∙◌, subst}
use Rattle.serde_json.specs.Data.{Data}
use Rattle.serde_json.specs.Find.{get}
use Rattle.cg_hjson.specs.declared.tree.Tree.{Tree}
use Rattle.cg_keys.specs.Elements.{object_faults}
use Rattle.cg_keys.specs.Forms.{or_else}
use Rattle.cg_keys.specs.Lists.{first_members_after}
use Rattle.cg_keys.specs.Lookups.{text_at}
use Rattle.cg_keys.specs.Table.{Key, may, needs, value_at}
use Rattle.cg_keys.specs.Values.{members_of}
use Rattle.cg_keys.specs.declared.forms.Form.TheVariants.{Name, Object}
use Rattle.cg_topread.specs.Listed.{bases_faults, faces_faults, instance_faults, instance_members_faults, members_at, sources_faults}
use Rattle.cg_topread.specs.Tables.{bases_forms, clock_source_keys, instance_keys, reset_source_keys}
use Rattle.cg_topread.specs.Types.{if_name, type_in}
use Rattle.cg_blkdone.specs.Full.{with_all}
use Rattle.cg_blkdone.proofs.Completion.{by_either, by_object, stands_at, text_kept}
use Rattle.cg_blkdone.proofs.Lookups.{found_in_completed, is_object, no_object_stays}
use Rattle.cg_blkdone.proofs.Puts.{last_at}
use Rattle.cg_blkdone.proofs.SoundCompleted.{Puts, fits_first, object_completed, only_form, table_of}
use Rattle.cg_blkdone.proofs.SoundFields.{row_good}
use Rattle.cg_blkdone.proofs.SoundNone.{is_none, none_by_both}
use Rattle.cg_blkdone.proofs.SoundTables.{fits_one_told, none_of_object, object_good, table_good}
use Rattle.cg_blkdone.proofs.Told.{told}
use Rattle.cg_done.specs.FullTop.{full_base, full_bases, full_instance, instance_pairs, no_ports, value_or}
use Rattle.cg_done.proofs.Differ.{Differs, differs_at}
use Rattle.cg_done.proofs.Lasts.{last_base, last_bases, last_in_instance}
use Rattle.cg_done.proofs.ReadTops.{none_in_both}
use Rattle.cg_done.proofs.SoundJudged.{At, Judges, at_holds, at_says, part_fits, part_stays, put_is, row_fits, value_fits, value_stays}
use Rattle.cg_done.proofs.SoundSources.{BaseGood, EachTold, FaceGood, SourceGood, bases_good, bases_whole, face_good, faces_good, faces_told, good_bases, good_faces, good_sources, nothing_told, sources_good}

-- ---- what is found of an instance, by what it tells

-- sources
pub sources_judged : (ks : List Key) → Judges (EachTold (SourceGood ks)) (sources_faults ks)
unfolding sources_faults first_members_after
sources_judged ks = record { none = refl; says = sources_good ks; holds = good_sources ks }

-- base addresses
bases_judged : Judges (EachTold BaseGood) bases_faults
unfolding bases_faults first_members_after
bases_judged = record { none = refl; says = bases_good; holds = good_bases }

-- those of interfaces
faces_judged : Judges (EachTold FaceGood) faces_faults
unfolding faces_faults first_members_after
faces_judged = record { none = refl; says = faces_told; holds = good_faces }

-- an instance breaks nothing
record InstanceGood (d : Data) : Type 0 where
  table : object_good instance_keys d ≡ true
  clocks : At (codes "clock_srcs") (EachTold (SourceGood clock_source_keys)) d
  resets : At (codes "reset_connections") (EachTold (SourceGood reset_source_keys)) d
  bases : At (codes "base_addr") (EachTold BaseGood) d
  faces : At (codes "base_addrs") (EachTold FaceGood) d

instance_says : (t : Tree) → is_none (instance_faults t) ≡ true → InstanceGood (told t)
unfolding instance_faults instance_members_faults
instance_says t none =
    let first = none_in_both (object_faults instance_keys t) _ none in
    let clocks = none_in_both (sources_faults clock_source_keys (members_at (codes "clock_srcs") (members_of t))) _ first.1 in
    let resets = none_in_both (sources_faults reset_source_keys (members_at (codes "reset_connections") (members_of t))) _ clocks.1 in
    let bases = none_in_both (bases_faults (members_at (codes "base_addr") (members_of t))) _ resets.1 in
    record {
      table = sym (none_of_object instance_keys t) ∙ first.0;
      clocks = at_says _ _ (sources_judged clock_source_keys) (codes "clock_srcs") t clocks.0;
      resets = at_says _ _ (sources_judged reset_source_keys) (codes "reset_connections") t resets.0;
      bases = at_says _ _ bases_judged (codes "base_addr") t bases.0;
      faces = at_says _ _ faces_judged (codes "base_addrs") t bases.1;
    }

instance_holds : (t : Tree) → InstanceGood (told t) → is_none (instance_faults t) ≡ true
unfolding instance_faults instance_members_faults
instance_holds t good =
    none_by_both (object_faults instance_keys t) _ true true (none_of_object instance_keys t ∙ good.table)
    (none_by_both (sources_faults clock_source_keys (members_at (codes "clock_srcs") (members_of t))) _ true true
    (at_holds _ _ (sources_judged clock_source_keys) (codes "clock_srcs") t good.clocks)
    (none_by_both (sources_faults reset_source_keys (members_at (codes "reset_connections") (members_of t))) _ true true
    (at_holds _ _ (sources_judged reset_source_keys) (codes "reset_connections") t good.resets)
    (none_by_both (bases_faults (members_at (codes "base_addr") (members_of t))) _ true true
    (at_holds _ _ bases_judged (codes "base_addr") t good.bases) (at_holds _ _ faces_judged (codes "base_addrs") t good.faces))))

-- ---- a completed instance

-- an object has a form
pub object_row : (d : Data) → is_object d ≡ true → fits_one_told (Object ∷ []) d ≡ true
object_row d is = fits_first Object [] d is

module _ (t : Tree) (differ : Differs t) (is : is_object (told t) ≡ true) (good : InstanceGood (told t)) where
  rows : table_good instance_keys (told t) ≡ true
  rows = table_of instance_keys (told t) is good.table

  bases_object : (v : Tree) → value_at (codes "base_addrs") (members_of t) ≡ Some v → is_object (told v) ≡ true
  bases_object v found =
      let row = may (codes "base_addrs") (Object ∷ []) in
      only_form Object (told v) (row_fits row t v (row_good instance_keys row (told t) (inr (inr (inr (inr (inr (inl refl)))))) rows) found)

  instance_puts : Puts instance_keys (instance_pairs (members_of t))
  instance_puts =
      let ms = members_of t in
      let ps = instance_pairs ms in
      let clocks = may (codes "clock_srcs") (Object ∷ []) in
      let resets = may (codes "reset_connections") (Object ∷ []) in
      let base = may (codes "base_addr") bases_forms in
      let bases = may (codes "base_addrs") (Object ∷ []) in
      let clocks_put = put_is clocks ps (Some (value_or no_ports (value_at (codes "clock_srcs") ms))) (last_in_instance (codes "clock_srcs") ms)
      (value_fits clocks no_ports t refl (row_good instance_keys clocks (told t) (inr (inr (inl refl))) rows)) in
      let resets_put = put_is resets ps (Some (value_or no_ports (value_at (codes "reset_connections") ms))) (last_in_instance (codes "reset_connections") ms)
      (value_fits resets no_ports t refl (row_good instance_keys resets (told t) (inr (inr (inr (inl refl)))) rows)) in
      let base_put = put_is base ps (option_map full_base (value_at (codes "base_addr") ms)) (last_base ms)
      (part_fits base full_base (value_at (codes "base_addr") ms) (λ v found. (face_good v (differs_at t (codes "base_addr") v differ found)).0)) in
      let bases_put = put_is bases ps (option_map full_bases (value_at (codes "base_addrs") ms)) (last_bases ms)
      (part_fits bases full_bases (value_at (codes "base_addrs") ms) (λ v found. object_row (full_bases v) (bases_whole v (bases_object v found)))) in
      let name_put = put_is (needs (codes "name") (Name ∷ [])) ps None (last_in_instance (codes "name") ms) tt in
      let type_put = put_is (needs (codes "type") (Name ∷ [])) ps None (last_in_instance (codes "type") ms) tt in
      (name_put, (type_put, (clocks_put, (resets_put, (base_put, (bases_put, tt))))))

  abbrev whole : Data
  whole = with_all (instance_pairs (members_of t)) (told t)

  stands : (key : List ℕ) (o : Option Data) → last_at key (instance_pairs (members_of t)) ≡ o → get key whole ≡ or_else o (get key (told t))
  stands key o last = found_in_completed key (instance_pairs (members_of t)) (told t) is ∙ ap (λ p. or_else p (get key (told t))) last

  instance_good : InstanceGood whole
  instance_good =
      let ms = members_of t in
      record {
        table = object_completed instance_keys (instance_pairs ms) (told t) is instance_puts good.table;
        clocks = value_stays no_ports _ (codes "clock_srcs") t whole
            (stands (codes "clock_srcs") (Some (value_or no_ports (value_at (codes "clock_srcs") ms))) (last_in_instance (codes "clock_srcs") ms))
            (nothing_told _ no_ports (λ key. refl)) good.clocks;
        resets = value_stays no_ports _ (codes "reset_connections") t whole
            (stands (codes "reset_connections") (Some (value_or no_ports (value_at (codes "reset_connections") ms))) (last_in_instance (codes "reset_connections") ms))
            (nothing_told _ no_ports (λ key. refl)) good.resets;
        bases = part_stays full_base _ (codes "base_addr") t whole (stands (codes "base_addr") (option_map full_base (value_at (codes "base_addr") ms)) (last_base ms))
            (λ v found. (face_good v (differs_at t (codes "base_addr") v differ found)).1);
        faces = part_stays full_bases _ (codes "base_addrs") t whole (stands (codes "base_addrs") (option_map full_bases (value_at (codes "base_addrs") ms)) (last_bases ms))
            (λ v found. faces_good v (differs_at t (codes "base_addrs") v differ found) (bases_object v found));
      }

-- of a completed instance nothing is found where nothing is of the instance
pub instance_stays : (t u : Tree) → Differs t → Differs u → told u ≡ full_instance t → is_none (instance_faults t) ≡ true → is_none (instance_faults u) ≡ true
unfolding full_instance
instance_stays t u old new done none = instance_holds u (subst InstanceGood (sym done) (by_either (is_object (told t))
    (λ is. instance_good t old is (instance_says t none))
    (λ is. subst InstanceGood (sym (no_object_stays (instance_pairs (members_of t)) (told t) is)) (instance_says t none))))

-- and it is of the same type
pub type_same : (t u : Tree) → told u ≡ full_instance t → type_in u ≡ type_in t
unfolding full_instance type_in
type_same t u done = by_object (instance_pairs (members_of t)) t u done
    (λ is. ap (option_and_then if_name) (text_kept (codes "type") t u
    (stands_at (instance_pairs (members_of t)) t u done is (codes "type") ∙ ap (λ o. or_else o (get (codes "type") (told t))) (last_in_instance (codes "type") (members_of t)))))
    (λ same. ap (λ ms. option_and_then if_name (text_at (codes "type") ms)) same)
