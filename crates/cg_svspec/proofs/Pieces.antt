-- Putting one piece before a text that reads to tokens.
use Rattle.std.proofs.Common.{◌≡◌, ℕ, eqb, Bool, true, false, ◌&&◌, List, [], ◌∷◌, ◌++◌, refl, ap, sym, subst, ◌∙◌, append_assoc, codes}
use Rattle.std.specs.List.{list_all}
use Rattle.cg_svspec.specs.Characters.{is_first, is_name_character, is_mark, is_blank, IsWord}
use Rattle.cg_svspec.specs.Tokens.{Token, word, mark, equals, IsToken, spelling, IsLongest, token, blank, line, block, shown_all, is_inside_line, EndsLine, IsBlockBody, ReadsTo}
use Rattle.cg_svspec.proofs.Runs.{both_pass, each_passes}
use Rattle.cg_svspec.proofs.Longest.{Apart, apart_at, word_longest, mark_longest, assign_longest, equals_longest}

-- a token
pub add : (t : Token) (more : List ℕ) (us : List Token) (tail : List ℕ) → IsToken t → IsLongest t more → ReadsTo more us tail → ReadsTo (spelling t ++ more) (t ∷ us) tail
add t more us tail is longest r = record {
  pieces = token t ∷ r.pieces;
  whole = ap (λ z. spelling t ++ z) r.whole ∙ sym (append_assoc (spelling t) (shown_all r.pieces) tail);
  in_order = ap (λ z. t ∷ z) r.in_order;
  each = (is, subst (IsLongest t) r.whole longest, r.each);
}

-- a blank
pub skip : (c : ℕ) {more : List ℕ} {us : List Token} {tail : List ℕ} → is_blank c ≡ true → ReadsTo more us tail → ReadsTo (c ∷ more) us tail
skip c is r = record { pieces = blank c ∷ r.pieces; whole = ap (λ z. c ∷ z) r.whole; in_order = r.in_order; each = (is, r.each) }

-- a comment up to a line's end
pub remark : (body more : List ℕ) (us : List Token) (tail : List ℕ) → list_all is_inside_line body ≡ true → ReadsTo (10 ∷ more) us tail → ReadsTo (codes "//" ++ (body ++ 10 ∷ more)) us tail
remark body more us tail inside r = record {
  pieces = line body ∷ r.pieces;
  whole = ap (λ z. codes "//" ++ (body ++ z)) r.whole ∙ sym (append_assoc (codes "//" ++ body) (shown_all r.pieces) tail);
  in_order = r.in_order;
  each = (each_passes is_inside_line body inside, subst EndsLine r.whole refl, r.each);
}

-- a comment in /* and */
pub block_remark : (body : List ℕ) {more : List ℕ} {us : List Token} {tail : List ℕ} → IsBlockBody body → ReadsTo more us tail → ReadsTo (codes "/*" ++ (body ++ (codes "*/" ++ more))) us tail
block_remark body {more} {us} {tail} is r = record {
  pieces = block body ∷ r.pieces;
  whole = ap (λ z. codes "/*" ++ (body ++ (codes "*/" ++ z))) r.whole
      ∙ ap (λ z. codes "/*" ++ z) (sym (append_assoc body (codes "*/") (shown_all r.pieces ++ tail)) ∙ sym (append_assoc (body ++ codes "*/") (shown_all r.pieces) tail));
  in_order = r.in_order;
  each = (is, r.each);
}

-- a space
pub space : {more : List ℕ} {us : List Token} {tail : List ℕ} → ReadsTo more us tail → ReadsTo (32 ∷ more) us tail
space r = skip 32 refl r

-- a line feed
pub line_feed : {more : List ℕ} {us : List Token} {tail : List ℕ} → ReadsTo more us tail → ReadsTo (10 ∷ more) us tail
line_feed r = skip 10 refl r

-- a mark other than =
pub one : (c : ℕ) {more : List ℕ} {us : List Token} {tail : List ℕ} → is_mark c ≡ true → eqb c 61 ≡ false → ReadsTo more us tail → ReadsTo (c ∷ more) (mark c ∷ us) tail
one c is other r = add (mark c) _ _ _ is (mark_longest c _ is other) r

-- the mark = and a space
pub assigns : {more : List ℕ} {us : List Token} {tail : List ℕ} → ReadsTo more us tail → ReadsTo (61 ∷ 32 ∷ more) (mark 61 ∷ us) tail
assigns r = add (mark 61) _ _ _ refl (assign_longest _ refl) (space r)

-- the token ==
pub twice : {more : List ℕ} {us : List Token} {tail : List ℕ} → ReadsTo more us tail → ReadsTo (61 ∷ 61 ∷ more) (equals ∷ us) tail
twice r = add equals _ _ _ tt (equals_longest _) r

-- a word
pub named : (w : List ℕ) {more : List ℕ} {us : List Token} {tail : List ℕ} → IsWord w → Apart more → ReadsTo more us tail → ReadsTo (w ++ more) (word w ∷ us) tail
named w is apart r = add (word w) _ _ _ is (word_longest w _ is apart) r

-- whether the text is a word, which computes at a text that is written out
abbrev pub is_word : List ℕ → Bool
is_word [] = false
is_word (c ∷ cs) = is_first c && list_all is_name_character cs

-- so it is one
pub spelled : (w : List ℕ) → is_word w ≡ true → IsWord w
spelled [] h = cc
spelled (c ∷ cs) h = let both = both_pass (is_first c) (list_all is_name_character cs) h in (both.0, each_passes is_name_character cs both.1)

-- a word that is written out
pub quoted : (w : List ℕ) {more : List ℕ} {us : List Token} {tail : List ℕ} → is_word w ≡ true → Apart more → ReadsTo more us tail → ReadsTo (w ++ more) (word w ∷ us) tail
quoted w is apart r = named w (spelled w is) apart r

-- nothing is read of what is left
pub finish : (tail : List ℕ) → ReadsTo tail [] tail
finish tail = record { pieces = []; whole = refl; in_order = refl; each = tt }

-- a space is apart from words, numbers and literals
pub apart_space : {cs : List ℕ} → Apart (32 ∷ cs)
apart_space {cs} = apart_at 32 cs refl refl refl refl

-- so is a line feed
pub apart_line_feed : {cs : List ℕ} → Apart (10 ∷ cs)
apart_line_feed {cs} = apart_at 10 cs refl refl refl refl

-- (
pub apart_open : {cs : List ℕ} → Apart (40 ∷ cs)
apart_open {cs} = apart_at 40 cs refl refl refl refl

-- )
pub apart_close : {cs : List ℕ} → Apart (41 ∷ cs)
apart_close {cs} = apart_at 41 cs refl refl refl refl

-- ,
pub apart_comma : {cs : List ℕ} → Apart (44 ∷ cs)
apart_comma {cs} = apart_at 44 cs refl refl refl refl

-- :
pub apart_colon : {cs : List ℕ} → Apart (58 ∷ cs)
apart_colon {cs} = apart_at 58 cs refl refl refl refl

-- ;
pub apart_semicolon : {cs : List ℕ} → Apart (59 ∷ cs)
apart_semicolon {cs} = apart_at 59 cs refl refl refl refl

-- [
pub apart_open_bracket : {cs : List ℕ} → Apart (91 ∷ cs)
apart_open_bracket {cs} = apart_at 91 cs refl refl refl refl

-- ]
pub apart_close_bracket : {cs : List ℕ} → Apart (93 ∷ cs)
apart_close_bracket {cs} = apart_at 93 cs refl refl refl refl

-- }
pub apart_close_brace : {cs : List ℕ} → Apart (125 ∷ cs)
apart_close_brace {cs} = apart_at 125 cs refl refl refl refl

-- so is the text's end
pub apart_end : Apart []
apart_end = record { name = tt; digit = tt; hexadecimal = tt; quote = tt }
