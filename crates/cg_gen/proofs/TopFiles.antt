-- What is kept of the files that were read, where the store tells its files.
use Rattle.std.proofs.Common.{◌≡◌, ◌≢◌, ℕ, Bool, true, false, List, [], ◌∷◌, ◌++◌, length, Option, Some, None, option_map, refl, sym, ap, subst, ◌∙◌, inl, inr, arith}
use Rattle.std.specs.FinMap as fin
use Rattle.std.specs.Ordering.{nat_cmp}
use Rattle.std.specs.Cmp.Lexicographic.{slice_cmp}
use Rattle.std.specs.Str.{bytes_eq}
use Rattle.std.proofs.lemmas.Bool.{false≢true}
use Rattle.std.proofs.lemmas.Slice.Eq.{bytes_eq-Decides}
use Rattle.cg_base.specs.Outside.{Files}
use Rattle.cg_svspec.specs.Names.{Among}
use Rattle.cg_gen.specs.Reads.{Read, GaveAll}
use Rattle.cg_gen.specs.Topgen.{as_kept, in_folder, with_given, with_read, with_reads}
use Rattle.cg_gen.specs.Gathering.{AreOfNames}
use Rattle.cg_gen.proofs.Gathering.{named_there}
use Rattle.cg_gen.proofs.Kept.{apart, here}

-- a name is another one or not
name_cases : (q name : List ℕ) (Z : Type 0) → (q ≡ name → Z) → (q ≢ name → Z) → Z
name_cases q name Z same differs = by (bytes_eq q name) refl where
  by : (b : Bool) → bytes_eq q name ≡ b → Z
  by true is = same ((bytes_eq-Decides q name).0 is)
  by false is = differs (λ e. false≢true (sym is ∙ (bytes_eq-Decides q name).1 e))

module _ (folder : List ℕ) where
  -- ---- what is kept stays

  given_stays : (files : Files) (name q k : List ℕ) (o g : Option (List ℕ)) → fin.get files name ≡ o → fin.get files q ≡ Some k → fin.get (with_given files name o g) q ≡ Some k
  given_stays files name q k (Some there) g at is = is
  given_stays files name q k None None at is = is
  given_stays files name q k None (Some bytes) at is =
      apart files name (as_kept bytes) q (λ same. let bad : None ≡ Some k = sym at ∙ ap (fin.get files) (sym same) ∙ is in cc) ∙ is

  pub kept_stays : (files : Files) (rs : List Read) (q k : List ℕ) → fin.get files q ≡ Some k → fin.get (with_reads folder files rs) q ≡ Some k
  kept_stays files [] q k is = is
  kept_stays files (r ∷ rs) q k is =
      kept_stays (with_read folder files r) rs q k (given_stays files (in_folder folder r.name) q k (fin.get files (in_folder folder r.name)) r.given refl is)

  -- ---- a file that is there is kept

  given_is_kept : (files : Files) (name bytes : List ℕ) (o g : Option (List ℕ)) → fin.get files name ≡ o → g ≡ Some bytes → (k : List ℕ) × (fin.get (with_given files name o g) name ≡ Some k)
  given_is_kept files name bytes (Some k) g at is = (k, at)
  given_is_kept files name bytes None None at is = absurd (let bad : ◌≡◌ {A = Option (List ℕ)} None (Some bytes) = is in cc)
  given_is_kept files name bytes None (Some b) at is = (as_kept b, here files name (as_kept b))

  read_is_kept : (files : Files) (r : Read) (name bytes : List ℕ) → r.name ≡ folder ++ name → r.given ≡ Some bytes → (k : List ℕ) × (fin.get (with_read folder files r) name ≡ Some k)
  read_is_kept files r name bytes named given =
      let there : in_folder folder r.name ≡ name = ap (in_folder folder) named ∙ named_there folder name in
      let k = given_is_kept files (in_folder folder r.name) bytes (fin.get files (in_folder folder r.name)) r.given refl given in
      (k.0, subst (λ n. fin.get (with_read folder files r) n ≡ Some k.0) there k.1)

  module _ (m : Files) where
    pub is_kept : (files : Files) (rs : List Read) (names : List (List ℕ)) (name bytes : List ℕ) → AreOfNames folder rs names → length rs ≡ length names → GaveAll (Some m) rs → Among name names
        → fin.get m (folder ++ name) ≡ Some bytes → (k : List ℕ) × (fin.get (with_reads folder files rs) name ≡ Some k)
    is_kept files rs [] name bytes of count gave among is = absurd among
    is_kept files [] (n ∷ names) name bytes of count gave among is = absurd (omega (arith, count))
    is_kept files (r ∷ rs) (n ∷ names) name bytes of count gave (inl same) is =
        let named : r.name ≡ folder ++ name = of.0 ∙ ap (λ x. folder ++ x) (sym same) in
        let k = read_is_kept files r name bytes named (sym (gave.0 m refl) ∙ ap (fin.get m) named ∙ is) in
        (k.0, kept_stays (with_read folder files r) rs name k.0 k.1)
    is_kept files (r ∷ rs) (n ∷ names) name bytes of count gave (inr among) is =
        is_kept (with_read folder files r) rs names name bytes of.1 (omega (arith, count)) gave.1 among is

    -- ---- what is kept is what is there

    abbrev pub Agrees : Files → Type 0
    Agrees files = (q k : List ℕ) → fin.get files q ≡ Some k → Some k ≡ option_map as_kept (fin.get m (folder ++ q))

    agrees_none : Agrees fin.empty
    agrees_none q k is = let bad : None ≡ Some k = sym (fin.get-empty (slice_cmp nat_cmp) q) ∙ is in cc

    agrees_given : (files : Files) (name : List ℕ) (o g : Option (List ℕ)) → fin.get m (folder ++ name) ≡ g → Agrees files → Agrees (with_given files name o g)
    agrees_given files name (Some there) g told agrees = agrees
    agrees_given files name None None told agrees = agrees
    agrees_given files name None (Some bytes) told agrees = λ q k is.
        name_cases q name (Some k ≡ option_map as_kept (fin.get m (folder ++ q)))
        (λ same. sym is ∙ ap (fin.get (fin.insert files name (as_kept bytes))) same ∙ here files name (as_kept bytes) ∙ ap (option_map as_kept) (sym told) ∙ ap (λ n. option_map as_kept (fin.get m (folder ++ n))) (sym same))
        (λ differs. agrees q k (sym (apart files name (as_kept bytes) q differs) ∙ is))

    agrees_read : (files : Files) (r : Read) (name : List ℕ) → r.name ≡ folder ++ name → fin.get m r.name ≡ r.given → Agrees files → Agrees (with_read folder files r)
    agrees_read files r name named told agrees =
        let there : in_folder folder r.name ≡ name = ap (in_folder folder) named ∙ named_there folder name in
        agrees_given files (in_folder folder r.name) (fin.get files (in_folder folder r.name)) r.given (ap (λ n. fin.get m (folder ++ n)) there ∙ ap (fin.get m) (sym named) ∙ told) agrees

    agrees_reads : (files : Files) (rs : List Read) (names : List (List ℕ)) → AreOfNames folder rs names → GaveAll (Some m) rs → Agrees files → Agrees (with_reads folder files rs)
    agrees_reads files [] names of gave agrees = agrees
    agrees_reads files (r ∷ rs) [] of gave agrees = absurd of
    agrees_reads files (r ∷ rs) (n ∷ names) of gave agrees =
        agrees_reads (with_read folder files r) rs names of.1 gave.1 (agrees_read files r n of.0 (gave.0 m refl) agrees)

    -- so of all files of these names
    pub kept_as_there : (rs : List Read) (names : List (List ℕ)) (name : List ℕ) → AreOfNames folder rs names → length rs ≡ length names → GaveAll (Some m) rs → Among name names
        → fin.get (with_reads folder fin.empty rs) name ≡ option_map as_kept (fin.get m (folder ++ name))
    kept_as_there rs names name of count gave among = by (fin.get m (folder ++ name)) refl (fin.get (with_reads folder fin.empty rs) name) refl where
      agrees : Agrees (with_reads folder fin.empty rs)
      agrees = agrees_reads fin.empty rs names of gave agrees_none

      by : (there : Option (List ℕ)) → fin.get m (folder ++ name) ≡ there → (o : Option (List ℕ)) → fin.get (with_reads folder fin.empty rs) name ≡ o
          → fin.get (with_reads folder fin.empty rs) name ≡ option_map as_kept (fin.get m (folder ++ name))
      by there at (Some k) is = is ∙ agrees name k is
      by None at None is = is ∙ ap (option_map as_kept) (sym at)
      by (Some bytes) at None is = let k = is_kept fin.empty rs names name bytes of count gave among at in absurd (let bad : None ≡ Some k.0 = sym is ∙ k.1 in cc)
