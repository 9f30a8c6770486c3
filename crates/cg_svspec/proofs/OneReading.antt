-- A text has one list of tokens, as far as tokens, blanks and comments go.
use Rattle.std.proofs.Common.{◌≡◌, ℕ, eqb, cond, true, false, ◌&&◌, List, [], ◌∷◌, ◌++◌, length, refl, ap, sym, subst, ◌∙◌, arith, append_assoc, codes}
use Rattle.std.proofs.lemmas.Bool.{both_ways}
use Rattle.std.proofs.lemmas.Bool.Decides.{nat_tests}
use Rattle.cg_svspec.specs.Characters.{is_blank}
use Rattle.cg_svspec.specs.Tokens.{Token, IsToken, spelling, IsLongest, Piece, token, blank, return, line, block, shown, shown_all, tokens_of, EndsLine, is_inside_line, has_close, IsBlockBody, Fit, NothingBegins, ReadsTo, Reads}
use Rattle.cg_svspec.proofs.Runs.{or_false_right, StartsNot, same_run, same_front}
use Rattle.cg_svspec.proofs.SameToken.{starts_token, token_begins, same_token}

-- what kind of piece this is
abbrev pub kind_of_piece : Piece → ℕ
kind_of_piece (token t) = 0
kind_of_piece (blank c) = 1
kind_of_piece return = 2
kind_of_piece (line body) = 3
kind_of_piece (block body) = 4

-- what kind of comment begins with a slash and this text
abbrev pub kind_of_comment : List ℕ → ℕ
kind_of_comment [] = 0
kind_of_comment (c ∷ cs) = cond (eqb c 47) 3 4

-- what kind of piece the text begins with
abbrev pub kind_at : List ℕ → ℕ
kind_at [] = 0
kind_at (c ∷ cs) = cond (is_blank c) 1 (cond (eqb c 13) 2 (cond (eqb c 47) (kind_of_comment cs) 0))

-- where a token begins, no other piece does
starts_no_other : (c : ℕ) (cs : List ℕ) → starts_token c ≡ true → kind_at (c ∷ cs) ≡ 0
starts_no_other c cs h = grind (arith, nat_tests)

-- a text begins with a piece of the kind that its first characters tell
pub same_kind : (p : Piece) (tail : List ℕ) → Fit (p ∷ []) tail → kind_at (shown p ++ tail) ≡ kind_of_piece p
same_kind (token t) tail f =
    let b = token_begins t f.0 in
    subst (λ z. kind_at (z ++ tail) ≡ 0) (sym b.is) (starts_no_other b.first (b.after ++ tail) b.kind)
same_kind (blank c) tail f = rw f.0 refl
same_kind return tail f = refl
same_kind (line body) tail f = refl
same_kind (block body) tail f = refl

-- what is found in the rest of a text is found in the text
later_close : (c : ℕ) (cs : List ℕ) → has_close (c ∷ cs) ≡ false → has_close cs ≡ false
later_close c [] h = refl
later_close c (d ∷ cs) h = or_false_right (eqb c 42 && eqb d 47) (has_close (d ∷ cs)) h

-- */ at the front is found
close_found : (c d : ℕ) (cs : List ℕ) → c ≡ 42 → d ≡ 47 → has_close (c ∷ (d ∷ cs)) ≡ true
close_found c d cs a b = rw (a, b) refl

-- equal texts have equal first and second characters
heads : (a b c d : ℕ) (xs ys : List ℕ) → a ∷ b ∷ xs ≡ c ∷ d ∷ ys → (a ≡ c) × (b ≡ d)
heads a b c d xs ys e = (cc, cc)

-- the second character of */ is no *
star_no_slash : (y : ℕ) (rest tail : List ℕ) → 42 ∷ 47 ∷ rest ≡ y ∷ 42 ∷ tail → ⊥
star_no_slash y rest tail e = cc

-- a body that is not empty does not begin with */
no_close : (y : ℕ) (ys rest tail : List ℕ) → IsBlockBody (y ∷ ys) → 42 ∷ 47 ∷ rest ≡ y ∷ (ys ++ (42 ∷ 47 ∷ tail)) → ⊥
no_close y [] rest tail b e = star_no_slash y rest (47 ∷ tail) e
no_close y (z ∷ ys) rest tail b e =
    let same = heads 42 47 y z rest (ys ++ (42 ∷ 47 ∷ tail)) e in
    both_ways (has_close (y ∷ (z ∷ (ys ++ 42 ∷ [])))) b (close_found y z (ys ++ 42 ∷ []) (sym same.0) (sym same.1))

-- a block comment ends at its first */
same_body : (xs ys rest tail : List ℕ) → IsBlockBody xs → IsBlockBody ys → xs ++ (42 ∷ 47 ∷ rest) ≡ ys ++ (42 ∷ 47 ∷ tail) → (xs ≡ ys) × (rest ≡ tail)
same_body [] [] rest tail a b e = (refl, cc)
same_body [] (y ∷ ys) rest tail a b e = absurd (no_close y ys rest tail b e)
same_body (x ∷ xs) [] rest tail a b e = absurd (no_close x xs tail rest a (sym e))
same_body (x ∷ xs) (y ∷ ys) rest tail a b e =
    let behind : xs ++ (42 ∷ 47 ∷ rest) ≡ ys ++ (42 ∷ 47 ∷ tail) = cc in
    let more = same_body xs ys rest tail (later_close x (xs ++ 42 ∷ []) a) (later_close y (ys ++ 42 ∷ []) b) behind in
    let head : x ≡ y = cc in
    let tails : xs ≡ ys = more.0 in
    (cc, more.1)

-- what ends a line comment is not inside it
ends_line : (xs : List ℕ) → EndsLine xs → StartsNot is_inside_line xs
ends_line [] h = tt
ends_line (x ∷ xs) h = rw h refl

-- two tokens that are the longest at one place are equal
same_word : (t u : Token) (rest tail : List ℕ) → IsToken t → IsToken u → IsLongest t rest → IsLongest u tail → spelling t ++ rest ≡ spelling u ++ tail → (t ≡ u) × (rest ≡ tail)
same_word t u rest tail a b longest_t longest_u e =
    let size : length (spelling t) ≡ length (spelling u) = omega (arith, longest_t u tail b e, longest_u t rest a (sym e)) in
    let both = same_front (spelling t) (spelling u) rest tail size e in
    (same_token t u a b both.0, both.1)

-- what stands behind the two characters that open a comment
tail_of : {a b c d : ℕ} {xs ys : List ℕ} → a ∷ b ∷ xs ≡ c ∷ d ∷ ys → xs ≡ ys
tail_of e = cc

-- what is left of a block comment, regrouped
regroup : (body rest : List ℕ) → (body ++ codes "*/") ++ rest ≡ body ++ (42 ∷ 47 ∷ rest)
regroup body rest = append_assoc body (codes "*/") rest

-- two pieces of one kind that stand at one place are equal
pieces_equal : (p q : Piece) (rest tail : List ℕ) → kind_of_piece p ≡ kind_of_piece q → Fit (p ∷ []) rest → Fit (q ∷ []) tail → shown p ++ rest ≡ shown q ++ tail → (p ≡ q) × (rest ≡ tail)
pieces_equal (token t) (token u) rest tail k f g e =
    let same = same_word t u rest tail f.0 g.0 f.1 g.1 e in
    (ap token same.0, same.1)
pieces_equal (token t) (blank d) rest tail k f g e = cc
pieces_equal (token t) return rest tail k f g e = cc
pieces_equal (token t) (line y) rest tail k f g e = cc
pieces_equal (token t) (block y) rest tail k f g e = cc
pieces_equal (blank c) (token u) rest tail k f g e = cc
pieces_equal (blank c) (blank d) rest tail k f g e = (cc, cc)
pieces_equal (blank c) return rest tail k f g e = cc
pieces_equal (blank c) (line y) rest tail k f g e = cc
pieces_equal (blank c) (block y) rest tail k f g e = cc
pieces_equal return (token u) rest tail k f g e = cc
pieces_equal return (blank d) rest tail k f g e = cc
pieces_equal return return rest tail k f g e = (refl, cc)
pieces_equal return (line y) rest tail k f g e = cc
pieces_equal return (block y) rest tail k f g e = cc
pieces_equal (line x) (token u) rest tail k f g e = cc
pieces_equal (line x) (blank d) rest tail k f g e = cc
pieces_equal (line x) return rest tail k f g e = cc
pieces_equal (line x) (line y) rest tail k f g e =
    let same = same_run is_inside_line x y rest tail f.0 g.0 (ends_line rest f.1) (ends_line tail g.1) (tail_of e) in
    (ap line same.0, same.1)
pieces_equal (line x) (block y) rest tail k f g e = cc
pieces_equal (block x) (token u) rest tail k f g e = cc
pieces_equal (block x) (blank d) rest tail k f g e = cc
pieces_equal (block x) return rest tail k f g e = cc
pieces_equal (block x) (line y) rest tail k f g e = cc
pieces_equal (block x) (block y) rest tail k f g e =
    let same = same_body x y rest tail f.0 g.0 (sym (regroup x rest) ∙ tail_of e ∙ regroup y tail) in
    (ap block same.0, same.1)

-- two pieces that stand at one place are equal
same_piece : (p q : Piece) (rest tail : List ℕ) → Fit (p ∷ []) rest → Fit (q ∷ []) tail → shown p ++ rest ≡ shown q ++ tail → (p ≡ q) × (rest ≡ tail)
same_piece p q rest tail f g e =
    pieces_equal p q rest tail (sym (same_kind p rest f) ∙ ap kind_at e ∙ same_kind q tail g) f g e

-- the first piece fits before what the others show
first_fits : (p : Piece) (ps : List Piece) (tail : List ℕ) → Fit (p ∷ ps) tail → Fit (p ∷ []) (shown_all ps ++ tail)
first_fits (token t) ps tail f = (f.0, f.1, tt)
first_fits (blank c) ps tail f = (f.0, tt)
first_fits return ps tail f = tt
first_fits (line body) ps tail f = (f.0, f.1, tt)
first_fits (block body) ps tail f = (f.0, tt)

-- the other pieces fit behind the first one
others_fit : (p : Piece) (ps : List Piece) (tail : List ℕ) → Fit (p ∷ ps) tail → Fit ps tail
others_fit (token t) ps tail f = f.2
others_fit (blank c) ps tail f = f.1
others_fit return ps tail f = f
others_fit (line body) ps tail f = f.2
others_fit (block body) ps tail f = f.1

-- one more piece before equal tokens
with_piece : (p : Piece) (ps qs : List Piece) → tokens_of ps ≡ tokens_of qs → tokens_of (p ∷ ps) ≡ tokens_of (p ∷ qs)
with_piece (token t) ps qs e = ap (λ z. t ∷ z) e
with_piece (blank c) ps qs e = e
with_piece return ps qs e = e
with_piece (line body) ps qs e = e
with_piece (block body) ps qs e = e

-- two readings of a text, as far as pieces go, have the same tokens and leave the same
one_reading : (ps qs : List Piece) (rest tail : List ℕ) → Fit ps rest → Fit qs tail → NothingBegins rest → NothingBegins tail → shown_all ps ++ rest ≡ shown_all qs ++ tail → (tokens_of ps ≡ tokens_of qs) × (rest ≡ tail)
one_reading [] [] rest tail f g a b e = (refl, e)
one_reading [] (q ∷ qs) rest tail f g a b e = absurd (a q (shown_all qs ++ tail) (first_fits q qs tail g) (e ∙ append_assoc (shown q) (shown_all qs) tail))
one_reading (p ∷ ps) [] rest tail f g a b e = absurd (b p (shown_all ps ++ rest) (first_fits p ps rest f) (sym e ∙ append_assoc (shown p) (shown_all ps) rest))
one_reading (p ∷ ps) (q ∷ qs) rest tail f g a b e =
    let same = same_piece p q (shown_all ps ++ rest) (shown_all qs ++ tail) (first_fits p ps rest f) (first_fits q qs tail g) (sym (append_assoc (shown p) (shown_all ps) rest) ∙ e ∙ append_assoc (shown q) (shown_all qs) tail) in
    let more = one_reading ps qs rest tail (others_fit p ps rest f) (others_fit q qs tail g) a b same.1 in
    (with_piece p ps qs more.0 ∙ ap (λ z. tokens_of (z ∷ qs)) same.0, more.1)

-- the tokens of a text, as far as they go, and what is left are determined
pub reads_once : (text : List ℕ) (ts us : List Token) (rest tail : List ℕ) → NothingBegins rest → NothingBegins tail → ReadsTo text ts rest → ReadsTo text us tail → (ts ≡ us) × (rest ≡ tail)
reads_once text ts us rest tail a b r s =
    let one = one_reading r.pieces s.pieces rest tail r.each s.each a b (sym r.whole ∙ s.whole) in
    (sym r.in_order ∙ one.0 ∙ s.in_order, one.1)

-- no piece is empty
pub shows_some : (p : Piece) (tail : List ℕ) → Fit (p ∷ []) tail → [] ≡ shown p ++ tail → ⊥
shows_some (token t) tail f e =
    let b = token_begins t f.0 in
    let all : [] ≡ b.first ∷ (b.after ++ tail) = e ∙ ap (λ z. z ++ tail) b.is in
    cc
shows_some (blank c) tail f e = cc
shows_some return tail f e = cc
shows_some (line body) tail f e = cc
shows_some (block body) tail f e = cc

-- a text that is read to its end has one list of tokens
pub same_tokens : (text : List ℕ) (ts us : List Token) → Reads text ts → Reads text us → ts ≡ us
same_tokens text ts us r s = (reads_once text ts us [] [] shows_some shows_some r s).0
