-- Completed base addresses are the same base addresses, and complete.
use Rattle.std.proofs.Common.{◌≡◌, ℕ, ◌≤◌, true, List, [], ◌∷◌, ◌++◌, map, Option, Some, None, is_some, unwrap_or, arith, refl, sym, ap, ◌∙◌}
use Rattle.std.specs.List.{flat_map}
use Rattle.cg_desc.specs.declared.top.FaceBase.{FaceBase}
use Rattle.cg_hjson.specs.declared.tree.Member.{Member}
use Rattle.cg_hjson.specs.declared.tree.Tree.{Tree}
use Rattle.cg_keys.specs.Forms.{number_in, number_within}
use Rattle.cg_keys.specs.Values.{members_of, object_in}
use Rattle.cg_topread.specs.Described.{base_in, base_of, bases_in, face_base, face_bases, faces_bases, hart, object_bases}
use Rattle.cg_topread.specs.Described.{bases_by as described_by}
use Rattle.cg_topread.specs.InOrder.{by_keys}
use Rattle.cg_blkdone.specs.Full.{number_of}
use Rattle.cg_blkdone.specs.Parts.{each_pair}
use Rattle.cg_blkdone.proofs.Bits.{found_within, number_back}
use Rattle.cg_blkdone.proofs.Completion.{Completed, by_object, completed_twice}
use Rattle.cg_blkdone.proofs.CompletedFields.{IsWord}
use Rattle.cg_blkdone.proofs.EachMember.{each_twice}
use Rattle.cg_blkdone.proofs.Lookups.{is_object, number_told, number_told_in, object_stays}
use Rattle.cg_blkdone.proofs.Once.{members_once}
use Rattle.cg_blkdone.proofs.SoundShape.{no_object_is, object_is}
use Rattle.cg_blkdone.proofs.Told.{object_told, told}
use Rattle.cg_done.specs.FullTop.{bases_by, full_base, full_bases}
use Rattle.cg_done.specs.Parts.{plain_base}
use Rattle.cg_done.proofs.ByKeys.{all_by_keys, by_keys_completed, entrywise}
use Rattle.cg_done.proofs.Differ.{Differs, differs_at, values_differ}

-- ---- one number

low_or_zero : (o : Option ℕ) → IsWord o → unwrap_or o 0 ≤ 4294967295
low_or_zero None word = omega arith
low_or_zero (Some v) word = word v refl

-- a base address has 32 bits
pub base_low : (t : Tree) → base_in t ≤ 4294967295
unfolding base_in number_within
base_low t = low_or_zero (number_within 0 4294967295 t) (λ v is. found_within 0 4294967295 v (number_in t) is)

-- a number that stands for one is the same
pub plain_back : (t v : Tree) → told v ≡ plain_base t → base_in v ≡ base_in t
unfolding base_in
plain_back t v tells =
    ap (λ o. unwrap_or o 0) (number_told 0 4294967295 v ∙ ap (number_told_in 0 4294967295) tells ∙ number_back (base_in t) (base_low t))

-- ---- one number, or one for each address space

-- what two values have alike
pub record SameBase (t u : Tree) : Type 0 where
  pub bases : bases_in u ≡ bases_in t
  pub full : full_base u ≡ full_base t

of_one : (t u : Tree) → object_in t ≡ None → told u ≡ number_of (base_in t) → SameBase t u
unfolding bases_in full_base
of_one t u is tells =
    let again : object_in u ≡ None = no_object_is u (ap is_object tells) in
    let same : base_in u ≡ base_in t = plain_back t u tells in
    record {
      bases = ap (described_by u) again ∙ ap (λ b. record { space = hart; base = b } ∷ []) same ∙ sym (ap (described_by t) is);
      full = ap (bases_by u) again ∙ ap number_of same ∙ sym (ap (bases_by t) is);
    }

module _ (t u : Tree) (old : Differs t) (new : Differs u) (done : Completed (each_pair plain_base (members_of t)) t u) (is : is_object (told t) ≡ true) where
  still : is_object (told u) ≡ true
  still = ap is_object done ∙ object_stays (each_pair plain_base (members_of t)) (told t) is

  each_base : map base_of (by_keys (members_of u)) ≡ map base_of (by_keys (members_of t))
  each_base =
      entrywise Differs plain_base base_of (λ key v w before after tells. ap (λ b. record { space = key; base = b }) (plain_back v w tells))
      (by_keys (members_of t)) (by_keys (members_of u)) (all_by_keys Differs (members_of t) (values_differ t old)) (all_by_keys Differs (members_of u) (values_differ u new))
      (by_keys_completed plain_base t u done is (members_once t old))

  of_each : SameBase t u
  unfolding bases_in full_base object_bases
  of_each = record {
    bases = ap (described_by u) (object_is u still) ∙ each_base ∙ sym (ap (described_by t) (object_is t is));
    full = ap (bases_by u) (object_is u still)
        ∙ each_twice plain_base t u done is (members_once t old) Differs (λ v w before after tells. ap number_of (plain_back v w tells)) (λ key v. differs_at t key v old)
        (λ key v. differs_at u key v new) (members_once u new)
        ∙ sym (ap (bases_by t) (object_is t is));
  }

-- completed base addresses are the same
pub same_base : (t u : Tree) → Differs t → Differs u → told u ≡ full_base t → SameBase t u
unfolding full_base
same_base t u old new tells = by (object_in t) refl where
  by : (o : Option (List Member)) → object_in t ≡ o → SameBase t u
  by None is = of_one t u is (tells ∙ ap (bases_by t) is)
  by (Some ms) is =
      let whole : is_object (told t) ≡ true = sym (object_told t) ∙ ap is_some is in
      of_each t u old new (tells ∙ ap (bases_by t) (object_is t whole)) whole

-- ---- base addresses of interfaces

-- what two objects have alike
pub record SameBases (t u : Tree) : Type 0 where
  pub bases : faces_bases (members_of u) ≡ faces_bases (members_of t)
  pub full : full_bases u ≡ full_bases t

abbrev face_list : List ℕ × Tree → List FaceBase
face_list e = face_bases e

joined : (xs ys : List (List ℕ × Tree)) → map face_list xs ≡ map face_list ys → flat_map face_bases xs ≡ flat_map face_bases ys
joined xs ys same = sym (flat xs) ∙ ap (flat_map (λ fs. fs)) same ∙ flat ys where
  flat : (zs : List (List ℕ × Tree)) → flat_map (λ fs. fs) (map face_list zs) ≡ flat_map face_bases zs
  flat [] = refl
  flat (z ∷ zs) = ap (λ fs. face_bases z ++ fs) (flat zs)

same_each : (t u : Tree) → Differs t → Differs u → Completed (each_pair full_base (members_of t)) t u → is_object (told t) ≡ true → SameBases t u
unfolding full_bases faces_bases face_bases
same_each t u old new done is = record {
  bases = joined (by_keys (members_of u)) (by_keys (members_of t))
      (entrywise Differs full_base face_list (λ key v w before after tells. ap (map (face_base key)) (same_base v w before after tells).bases)
      (by_keys (members_of t)) (by_keys (members_of u)) (all_by_keys Differs (members_of t) (values_differ t old)) (all_by_keys Differs (members_of u) (values_differ u new))
      (by_keys_completed full_base t u done is (members_once t old)));
  full = each_twice full_base t u done is (members_once t old) Differs (λ v w before after tells. (same_base v w before after tells).full)
      (λ key v. differs_at t key v old) (λ key v. differs_at u key v new) (members_once u new);
}

-- completed base addresses of interfaces are the same
pub same_bases : (t u : Tree) → Differs t → Differs u → told u ≡ full_bases t → SameBases t u
unfolding full_bases
same_bases t u old new done =
    by_object (each_pair full_base (members_of t)) t u done (same_each t u old new done)
    (λ same. record {
      bases = ap faces_bases same;
      full = completed_twice (each_pair full_base (members_of t)) (each_pair full_base (members_of u)) t u done (ap (each_pair full_base) same);
    })
