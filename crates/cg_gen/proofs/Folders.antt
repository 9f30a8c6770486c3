-- A file's folder and its name there are one pair.
use Rattle.std.proofs.Common.{◌≡◌, ◌≢◌, ℕ, zero, suc, ◌+◌, ◌-◌, ◌<◌, Bool, true, not, eqb, List, [], ◌∷◌, ◌++◌, length, get_or, take, drop, add-one, Option, Some, None, MatchOption, refl, sym, ap, subst, ◌∙◌, inl, inr, arith}
use Rattle.std.proofs.lemmas.Bool.{false≢true}
use Rattle.std.proofs.lemmas.Bool.Decides.{eqb_tells}
use Rattle.std.proofs.lemmas.List.{get_or-drop, length-drop, take-append-drop}
use Rattle.cg_svspec.specs.Characters.{Each}
use Rattle.cg_gen.specs.Topgen.{IsFolder, StandsIn, none, some}

abbrev is_plain : ℕ → Bool
is_plain c = not (eqb c 47)

-- ---- slashes

slash_is_none : is_plain 47 ≡ true → ⊥
slash_is_none is = false≢true is

-- a text that ends in a slash, or is empty
abbrev pub Ends : List ℕ → Type 0
Ends [] = Unit {0}
Ends (c ∷ []) = c ≡ 47
Ends (c ∷ d ∷ cs) = Ends (d ∷ cs)

ends_with : (name : List ℕ) → Ends (name ++ 47 ∷ [])
ends_with [] = refl
ends_with (c ∷ []) = refl
ends_with (c ∷ d ∷ cs) = ends_with (d ∷ cs)

ends : (folder : List ℕ) → IsFolder folder → Ends folder
ends _ none = tt
ends _ (some name) = ends_with name

-- a text that is not empty and ends in a slash has one
slash_in : (c : ℕ) (cs rest : List ℕ) → Ends (c ∷ cs) → Each is_plain ((c ∷ cs) ++ rest) → ⊥
slash_in c [] rest is plain = slash_is_none (subst (λ x. is_plain x ≡ true) is plain.0)
slash_in c (d ∷ cs) rest is plain = slash_in d cs rest is plain.1

rest_ends : (c : ℕ) (cs : List ℕ) → Ends (c ∷ cs) → Ends cs
rest_ends c [] is = tt
rest_ends c (d ∷ cs) is = is

head_same : (c d : ℕ) (cs ds : List ℕ) → ◌≡◌ {A = List ℕ} (c ∷ cs) (d ∷ ds) → c ≡ d
head_same c d cs ds e = cc

tail_same : (c d : ℕ) (cs ds : List ℕ) → ◌≡◌ {A = List ℕ} (c ∷ cs) (d ∷ ds) → cs ≡ ds
tail_same c d cs ds e = cc

cut_one : (a b x y : List ℕ) → Ends a → Ends b → Each is_plain x → Each is_plain y → a ++ x ≡ b ++ y → (a ≡ b) × (x ≡ y)
cut_one [] [] x y end_a end_b plain_x plain_y e = (refl, e)
cut_one [] (d ∷ ds) x y end_a end_b plain_x plain_y e = absurd (slash_in d ds y end_b (subst (Each is_plain) e plain_x))
cut_one (c ∷ cs) [] x y end_a end_b plain_x plain_y e = absurd (slash_in c cs x end_a (subst (Each is_plain) (sym e) plain_y))
cut_one (c ∷ cs) (d ∷ ds) x y end_a end_b plain_x plain_y e =
    let rest = cut_one cs ds x y (rest_ends c cs end_a) (rest_ends d ds end_b) plain_x plain_y (tail_same c d (cs ++ x) (ds ++ y) e) in
    let first = head_same c d (cs ++ x) (ds ++ y) e in
    ((λ i. first i ∷ rest.0 i), rest.1)

-- ---- files

-- the pair is one
pub stands_one : (file folder own folder' own' : List ℕ) → StandsIn file folder own → StandsIn file folder' own' → (folder ≡ folder') × (own ≡ own')
stands_one file folder own folder' own' is also =
    cut_one folder folder' own own' (ends folder is.folder_is) (ends folder' also.folder_is) is.without_slash also.without_slash (sym is.is ∙ also.is)

-- ---- the last slash

plain_byte : (c : ℕ) → c ≢ 47 → is_plain c ≡ true
plain_byte c differs = elim (eqb_tells c 47) [ inl is ↦ absurd (differs is.1) | inr is ↦ ap not is.0 ]

-- bytes of which none is a slash
pub plain_bytes : (bytes : List ℕ) → ((i : ℕ) → i < length bytes → get_or bytes i 0 ≢ 47) → Each is_plain bytes
plain_bytes [] differ = tt
plain_bytes (c ∷ cs) differ = (plain_byte c (differ 0 (omega arith)), plain_bytes cs (λ i lt. differ (suc i) (omega (arith, lt))))

-- up to a slash
folder_to : (file : List ℕ) (k : ℕ) → k < length file → get_or file k 0 ≡ 47 → take (suc k) file ≡ take k file ++ 47 ∷ []
folder_to [] k lt is = absurd (omega (arith, lt))
folder_to (c ∷ cs) zero lt is = ap (λ x. x ∷ []) is
folder_to (c ∷ cs) (suc k) lt is = ap (λ xs. c ∷ xs) (folder_to cs k (omega (arith, lt)) is)

-- a name with no slash stands in no folder
pub stands_alone : (file : List ℕ) → ((i : ℕ) → i < length file → get_or file i 0 ≢ 47) → StandsIn file [] file
stands_alone file differ = record { is = refl; folder_is = none; without_slash = plain_bytes file differ }

-- one with a slash stands behind the last
pub stands_behind : (file : List ℕ) (k : ℕ) → k < length file → get_or file k 0 ≡ 47 → ((i : ℕ) → k < i → i < length file → get_or file i 0 ≢ 47)
    → StandsIn file (take (k + 1) file) (drop (k + 1) file)
stands_behind file k lt is differ = record {
  is = sym (take-append-drop (k + 1) file);
  folder_is = subst IsFolder (sym (rw add-one (folder_to file k lt is))) (some (take k file));
  without_slash = plain_bytes (drop (k + 1) file) (λ i below same.
      let long : length (drop (k + 1) file) ≡ length file - (k + 1) = length-drop (k + 1) file in
      let there : get_or (drop (k + 1) file) i 0 ≡ get_or file (k + 1 + i) 0 = get_or-drop (k + 1) file i 0 in
      differ (k + 1 + i) (omega arith) (omega (arith, below, long, lt)) (sym there ∙ same));
}

-- the last slash, or that there is none
abbrev pub Finds : List ℕ → Option ℕ → Type 0
Finds file found = MatchOption found ((i : ℕ) → i < length file → get_or file i 0 ≢ 47) (λ k. (k < length file) × (get_or file k 0 ≡ 47) × ((i : ℕ) → k < i → i < length file → get_or file i 0 ≢ 47))

pub found_none : (file : List ℕ) (found : Option ℕ) → found ≡ None → Finds file found → StandsIn file [] file
found_none file found is finds = stands_alone file (subst (Finds file) is finds)

pub found_some : (file : List ℕ) (found : Option ℕ) (k : ℕ) → found ≡ Some k → Finds file found → StandsIn file (take (k + 1) file) (drop (k + 1) file)
found_some file found k is finds = let at = subst (Finds file) is finds in stands_behind file k at.0 at.1 at.2
