-- What a map of files in memory answers, as a finite map.
use Rattle.std.proofs.Common.{◌≡◌, refl, sym, ◌∙◌, ap, ℕ, cond, List, [], ◌∷◌, Some, None, Option, map}
use Rattle.std.specs.declared.cmp.Ordering.{Ordering}
use Rattle.std.specs.Ordering.{nat_cmp, eq_by_cmp}
use Rattle.std.specs.Cmp.Lexicographic.{slice_cmp, nat_list_cmp_total}
use Rattle.std.specs.Str.{bytes_eq}
use Rattle.std.specs.FinMap as fin
use Rattle.std.specs.FinMap.Entries as entries
use Rattle.std.specs.BTreeMap.{BTreeMap, UpdatesBy, get_by_text, is_at}
use Rattle.std.specs.Map.{lookup}
use Rattle.std.specs.String.{string_cmp, string_bytes}
use Rattle.std.specs.declared.string.String.{String}
use Rattle.std.proofs.lemmas.Cmp.{eq_by_cmp_equiv}
use Rattle.std.proofs.lemmas.Map.Text.{btree_map_updates_text, is_eq-slice_cmp}
use Rattle.cg_base.specs.FileMap.{files_of_entries}

-- the order of names by their bytes
abbrev order : List ℕ → List ℕ → Ordering
order = slice_cmp nat_cmp

-- a search of the entries as names and bytes is a look-up by the name's bytes
find_entry : {A : Type 0} (es : List (String A × List ℕ)) (q : List ℕ)
    → entries.find order q (map (λ e. (string_bytes e.0, e.1)) es) ≡ lookup (is_at (λ k. slice_cmp nat_cmp q (string_bytes k))) es
find_entry [] q = refl
find_entry (e ∷ es) q = ap (cond (eq_by_cmp order q (string_bytes e.0)) (Some e.1)) (find_entry es q)

-- the map of the entries answers as a look-up by the name's bytes
pub get-files_of_entries : {A : Type 0} (m : BTreeMap (String A) (List ℕ)) (q : List ℕ) → fin.get (files_of_entries m.entries) q ≡ get_by_text m q
get-files_of_entries m q = fin.get-from_entries nat_list_cmp_total _ q ∙ find_entry m.entries q

-- the test of a look-up, turned round, as the map's order makes it
turned : (bs q : List ℕ) → bytes_eq bs q ≡ eq_by_cmp order q bs
turned bs q = sym (is_eq-slice_cmp bs q) ∙ (eq_by_cmp_equiv nat_list_cmp_total).symm bs q

module _ {A : Type 0} (bs : List ℕ) (m n : BTreeMap (String A) (List ℕ)) where
  -- what the map answers after a change at one name
  answers : (w : Option (List ℕ)) → UpdatesBy string_cmp (λ k. slice_cmp nat_cmp bs (string_bytes k)) m n w
      → (q : List ℕ) → fin.get (files_of_entries n.entries) q ≡ cond (eq_by_cmp order q bs) w (fin.get (files_of_entries m.entries) q)
  answers w u q =
      get-files_of_entries n q
      ∙ btree_map_updates_text bs m n w u q
      ∙ ap (λ b. cond b w (get_by_text m q)) (turned bs q)
      ∙ ap (cond (eq_by_cmp order q bs) w) (sym (get-files_of_entries m q))

  -- a new value at a name is an insert
  pub files_inserted : (v : List ℕ) → UpdatesBy string_cmp (λ k. slice_cmp nat_cmp bs (string_bytes k)) m n (Some v)
      → files_of_entries n.entries ≡ fin.insert (files_of_entries m.entries) bs v
  files_inserted v u =
      fin.same_map nat_list_cmp_total (fin.slice_cmp-IsAntisymmetric fin.nat_cmp-IsAntisymmetric) _ _ (λ q.
      answers (Some v) u q ∙ sym (fin.get-insert nat_list_cmp_total (files_of_entries m.entries) bs v q))

  -- no value at a name is a removal
  pub files_removed : UpdatesBy string_cmp (λ k. slice_cmp nat_cmp bs (string_bytes k)) m n None
      → files_of_entries n.entries ≡ fin.remove (files_of_entries m.entries) bs
  files_removed u =
      fin.same_map nat_list_cmp_total (fin.slice_cmp-IsAntisymmetric fin.nat_cmp-IsAntisymmetric) _ _ (λ q.
      answers None u q ∙ sym (fin.get-remove nat_list_cmp_total (files_of_entries m.entries) bs q))
