-- Multi-line strings.
use Rattle.std.specs.Prelude.{ℕ, ◌-◌, ◌≡◌, ◌⊎◌, Bool, true, false, ◌&&◌, ◌==◌, nat_lt, if◌then◌else◌, List, [], ◌∷◌}
use lib.Utf8.{encodes}
use Rattle.cg_docspec.specs.Characters.{line_feed, carriage_return, single_quote, is_space, is_control}
use Rattle.cg_docspec.specs.Place.{Place, next_place, place_after}
use Rattle.cg_docspec.specs.Gap.{starts}

-- three single quotes
abbrev pub three_quotes : List ℕ
three_quotes = single_quote ∷ single_quote ∷ single_quote ∷ []

-- Behind the opening ''', to and with the next one: the characters, where each line end is a line feed.
pub data Lines : Place → List ℕ → List ℕ → Place → List ℕ → Type 0 where
  lines_end : {at : Place} {c d e : ℕ} {s : List ℕ} → c ≡ single_quote → d ≡ single_quote → e ≡ single_quote →
      Lines at (c ∷ d ∷ e ∷ s) [] (place_after at (c ∷ d ∷ e ∷ [])) s
  lines_more : {at at' : Place} {c : ℕ} {s w r : List ℕ} → starts three_quotes (c ∷ s) ≡ false → (is_control c ≡ false) ⊎ (c ≡ line_feed) →
      Lines (next_place at c) s w at' r → Lines at (c ∷ s) (c ∷ w) at' r
  lines_crlf : {at at' : Place} {c d : ℕ} {s w r : List ℕ} → c ≡ carriage_return → d ≡ line_feed → Lines (next_place (next_place at c) d) s w at' r →
      Lines at (c ∷ d ∷ s) (line_feed ∷ w) at' r

-- there is nothing
abbrev pub is_nil : List ℕ → Bool
is_nil [] = true
is_nil (c ∷ s) = false

-- From each later line at most k leading spaces and tabs are dropped, and from this one at most n.
abbrev pub undented : ℕ → ℕ → List ℕ → List ℕ
undented k n [] = []
undented k n (c ∷ w) =
    if is_space c && nat_lt 0 n then undented k (n - 1) w
    else if c == line_feed then c ∷ undented k k w
    else c ∷ undented k 0 w

-- Spaces and tabs behind the opening on its line are dropped, and then a line end that follows them at once.
abbrev pub opened : ℕ → List ℕ → List ℕ
opened k [] = []
opened k (c ∷ w) =
    if is_space c then opened k w
    else if c == line_feed then undented k k w
    else undented k 0 (c ∷ w)

-- If the result ends in a line feed, that is dropped.
abbrev pub without_last_feed : List ℕ → List ℕ
without_last_feed [] = []
without_last_feed (c ∷ w) = if c == line_feed && is_nil w then [] else c ∷ without_last_feed w

-- the string of these characters, where k characters stand before the opening on its line
abbrev pub lines_text : ℕ → List ℕ → List ℕ
lines_text k w = encodes (without_last_feed (opened k w))
