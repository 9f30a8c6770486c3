-- What `topgen` reads: the top's own file, and then the files that it names.
use Rattle.std.proofs.Common.{◌≡◌, ◌⊎◌, ℕ, ◌<◌, ◌≤◌, List, [], ◌∷◌, ◌++◌, append-nil, append_assoc, length, get_or, slice_get, Some, None, refl, sym, ap, subst, ◌∙◌, inl, inr, arith}
use Rattle.std.specs.FinMap as fin
use Rattle.std.proofs.lemmas.Option.{slice_get_cases, slice_get_past}
use Rattle.cg_keep.specs.Files.{AreWanted}
use Rattle.cg_keep.proofs.Wanted.{wanted_first, wanted_one}
use Rattle.cg_words.specs.declared.command.Command.{Command}
use Rattle.cg_words.specs.declared.command.Command.TheVariants.{Topgen}
use Rattle.cg_gen.specs.Reads.{Read}
use Rattle.cg_gen.specs.Topgen.{NextRead, StandsIn, files_read, own as own_file, next as next_file}
use Rattle.cg_gen.specs.Due.{HasRead, HasReadAll, none as no_read, one_more}
use Rattle.cg_gen.specs.Gathering.{AreOfNames}
use Rattle.cg_gen.proofs.Folders.{stands_one}
use Rattle.cg_gen.proofs.Gathering.{of_next}

-- the files that are wanted where the first read gave this
abbrev pub WantedBy : (folder own : List ℕ) → Read → List (List ℕ) → Type 0
WantedBy folder own first names = AreWanted (fin.get (files_read folder (first ∷ [])) own) own names

-- the first name that is wanted is the top's own
named_first : (folder own : List ℕ) (first : Read) (names : List (List ℕ)) → WantedBy folder own first names → slice_get names 0 ≡ Some own
named_first folder own first names wanted = let rest = wanted_first (fin.get (files_read folder (first ∷ [])) own) own names wanted in ap (λ ns. slice_get ns 0) rest.1

-- a read that stands between others is of its name
at_seam : (folder : List ℕ) (front rs : List Read) (r : Read) (names : List (List ℕ)) → AreOfNames folder (front ++ r ∷ rs) names → (name : List ℕ) × (slice_get names (length front) ≡ Some name) × (r.name ≡ folder ++ name)
at_seam folder [] rs r [] of = absurd of
at_seam folder [] rs r (n ∷ names) of = (n, refl, of.0)
at_seam folder (s ∷ front) rs r [] of = absurd of
at_seam folder (s ∷ front) rs r (n ∷ names) of = at_seam folder front rs r names of.1

few_reads : (folder : List ℕ) (rs : List Read) (names : List (List ℕ)) → AreOfNames folder rs names → length rs ≤ length names
few_reads folder [] names of = omega arith
few_reads folder (r ∷ rs) [] of = absurd of
few_reads folder (r ∷ rs) (n ∷ names) of = let rest = few_reads folder rs names of.1 in omega (arith, rest)

module _ (file dir : List ℕ) (workers : ℕ) (folder own : List ℕ) (stands : StandsIn file folder own) where
  abbrev pub command : Command
  command = Topgen file dir workers

  -- ---- the reads that are made

  module _ (first : Read) (names : List (List ℕ)) (wanted : WantedBy folder own first names) where
    grown : (front rs : List Read) → HasRead command (first ∷ front) → AreOfNames folder (first ∷ (front ++ rs)) names → HasRead command (first ∷ (front ++ rs))
    grown front [] has of = subst (λ x. HasRead command (first ∷ x)) (sym (append-nil front)) has
    grown front (r ∷ rs) has of =
        let at = at_seam folder (first ∷ front) rs r names of in
        let is : NextRead file (first ∷ front) r.name = subst (NextRead file (first ∷ front)) (sym at.2) (next_file first front stands wanted at.1) in
        let cut = append_assoc front (r ∷ []) rs in
        subst (λ x. HasRead command (first ∷ x)) cut
        (grown (front ++ r ∷ []) rs (one_more (first ∷ front) r has is) (subst (λ x. AreOfNames folder (first ∷ x) names) (sym cut) of))

    first_named : (more : List Read) → AreOfNames folder (first ∷ more) names → first.name ≡ file
    first_named more of =
        let at = at_seam folder [] more first names of in
        let same : Some at.0 ≡ Some own = sym at.1 ∙ named_first folder own first names wanted in
        let name : at.0 ≡ own = cc in
        at.2 ∙ ap (λ x. folder ++ x) name ∙ sym stands.is

    -- these are the command's reads
    pub has_read_so : (more : List Read) → AreOfNames folder (first ∷ more) names → HasRead command (first ∷ more)
    has_read_so more of =
        grown [] more (one_more [] first no_read (subst (NextRead file []) (sym (first_named more of)) own_file)) of

  -- ---- the reads that were made

  pub same_wanted : (folder' own' : List ℕ) (first first' : Read) (names names' : List (List ℕ)) → StandsIn file folder' own' → ◌≡◌ {A = Read} first' first → WantedBy folder' own' first' names' → WantedBy folder own first names
      → names' ≡ names
  same_wanted folder' own' first first' names names' stands' same wanted' wanted =
      let pair = stands_one file folder' own' folder own stands' stands in
      wanted_one (fin.get (files_read folder (first ∷ [])) own) own names' names
      (subst (λ f. WantedBy f own first names') pair.0 (subst (λ o. WantedBy folder' o first names') pair.1 (subst (λ r. WantedBy folder' own' r names') same wanted'))) wanted

  same_folder : (folder' own' : List ℕ) → StandsIn file folder' own' → folder' ≡ folder
  same_folder folder' own' stands' = (stands_one file folder' own' folder own stands' stands).0

  head_read : (r s : Read) (rs ss : List Read) → ◌≡◌ {A = List Read} (r ∷ rs) (s ∷ ss) → r ≡ s
  head_read r s rs ss e = cc

  -- the next name, where some reads are made
  next_named : (first : Read) (more reads : List Read) (names : List (List ℕ)) (name : List ℕ) → WantedBy folder own first names → ◌≡◌ {A = List Read} reads (first ∷ more) → NextRead file reads name
      → (n : List ℕ) × (slice_get names (length (first ∷ more)) ≡ Some n) × (name ≡ folder ++ n)
  next_named first more _ names _ wanted same own_file = absurd (let bad : ◌≡◌ {A = List Read} [] (first ∷ more) = same in cc)
  next_named first more _ names _ wanted same (next_file {name = n} {names = names'} {folder = folder'} {own = own'} first' more' stands' wanted' at) = (
    n,
    ap (λ rs. slice_get names (length rs)) (sym same)
        ∙ ap (λ ns. slice_get ns (length (first' ∷ more'))) (sym (same_wanted folder' own' first first' names names' stands' (head_read first' first more' more same) wanted' wanted))
        ∙ at,
    ap (λ f. f ++ n) (same_folder folder' own' stands'),
  )

  -- reads of the files that are wanted, in their order
  abbrev pub AreSo : List Read → Type 0
  AreSo [] = Unit {0}
  AreSo (first ∷ more) = (names : List (List ℕ)) → WantedBy folder own first names → AreOfNames folder (first ∷ more) names

  own_name : (reads : List Read) (name : List ℕ) → ◌≡◌ {A = List Read} reads [] → NextRead file reads name → name ≡ file
  own_name _ _ same own_file = refl
  own_name _ _ same (next_file first more stands' wanted' at) = absurd (let bad : ◌≡◌ {A = List Read} (first ∷ more) [] = same in cc)

  one_so : (reads : List Read) (next : Read) → AreSo reads → NextRead file reads next.name → AreSo (reads ++ next ∷ [])
  one_so [] next so is = λ names wanted.
      of_next folder [] names next own tt (named_first folder own next names wanted) (own_name [] next.name refl is ∙ stands.is)
  one_so (first ∷ more) next so is = λ names wanted.
      let at = next_named first more (first ∷ more) names next.name wanted refl is in
      of_next folder (first ∷ more) names next at.0 (so names wanted) at.1 at.2

  pub are_so : (reads : List Read) → HasRead command reads → AreSo reads
  are_so _ no_read = tt
  are_so _ (one_more reads next has is) = one_so reads next (are_so reads has) is

  -- ---- all reads

  -- where so many were made as there are names, no other one is
  pub read_all : (first : Read) (more : List Read) (names : List (List ℕ)) → WantedBy folder own first names → length (first ∷ more) ≡ length names → (name : List ℕ) → ¬ NextRead file (first ∷ more) name
  read_all first more names wanted count name is =
      let at = next_named first more (first ∷ more) names name wanted refl is in
      let past : slice_get names (length (first ∷ more)) ≡ None = slice_get_past names (length (first ∷ more)) (omega (arith, count)) in
      let bad : None ≡ Some at.0 = sym past ∙ at.1 in
      cc

  pub has_read_all : (first : Read) (more : List Read) (names : List (List ℕ)) → WantedBy folder own first names → AreOfNames folder (first ∷ more) names → length (first ∷ more) ≡ length names
      → HasReadAll command (first ∷ more)
  has_read_all first more names wanted of count =
      record { has_read = has_read_so first names wanted more of; all = read_all first more names wanted count }

  -- all files that are wanted were read
  pub all_read : (first : Read) (more : List Read) → HasReadAll command (first ∷ more) → (names : List (List ℕ)) → WantedBy folder own first names
      → AreOfNames folder (first ∷ more) names × (length (first ∷ more) ≡ length names)
  all_read first more has names wanted = (of, by (slice_get_cases names (length (first ∷ more))).1) where
    of : AreOfNames folder (first ∷ more) names
    of = are_so (first ∷ more) has.has_read names wanted

    few : length (first ∷ more) ≤ length names
    few = few_reads folder (first ∷ more) names of

    by : ((n : List ℕ) × (length (first ∷ more) < length names) × (slice_get names (length (first ∷ more)) ≡ Some n) × (get_or names (length (first ∷ more)) n ≡ n)) ⊎ ((length names ≤ length (first ∷ more)) × (slice_get names (length (first ∷ more)) ≡ None)) → length (first ∷ more) ≡ length names
    by (inl at) = absurd (has.all (folder ++ at.0) (next_file first more stands wanted at.2))
    by (inr (over, none)) = omega (arith, over, few)

  -- and some file was
  pub some_read : (reads : List Read) → HasReadAll command reads → (first : Read) × (more : List Read) × (reads ≡ first ∷ more)
  some_read [] has = absurd (has.all file own_file)
  some_read (first ∷ more) has = (first, more, refl)

-- the next read is determined
pub next_once : (file : List ℕ) (reads : List Read) (a b : List ℕ) → NextRead file reads a → NextRead file reads b → a ≡ b
next_once file _ _ b own_file is = sym (own_name_of file [] b refl is) where
  own_name_of : (file : List ℕ) (reads : List Read) (name : List ℕ) → ◌≡◌ {A = List Read} reads [] → NextRead file reads name → name ≡ file
  own_name_of file _ _ same own_file = refl
  own_name_of file _ _ same (next_file first more stands' wanted' at) = absurd (let bad : ◌≡◌ {A = List Read} (first ∷ more) [] = same in cc)
next_once file _ _ b (next_file {name = n} {names = names} {folder = folder} {own = own} first more stands wanted at) is =
    let also = next_named file [] 0 folder own stands first more (first ∷ more) names b wanted refl is in
    let both : Some n ≡ Some also.0 = sym at ∙ also.1 in
    let same : n ≡ also.0 = cc in
    ap (λ x. folder ++ x) same ∙ sym also.2
