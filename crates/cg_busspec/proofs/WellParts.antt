-- Selects and parts are printable and fit where their nets are known.
use Rattle.std.proofs.Common.{◌≡◌, ℕ, suc, ◌+◌, ◌-◌, ◌*◌, ◌/◌, ◌^◌, ◌<◌, ◌≤◌, eqb, Bool, true, false, cond, arith, inl, inr, List, [], ◌∷◌, ◌++◌, map, reverse, length, refl, ap, sym, subst, ◌∙◌, codes}
use Rattle.std.proofs.lemmas.Bool.Decides.{nat_tests}
use Rattle.std.proofs.lemmas.List.{reverse-append}
use Rattle.std.proofs.lemmas.Nat.{shr_below, pow_pos}
use Rattle.std.proofs.Math.Nat.{mul-le-mul}
use Rattle.cg_svspec.specs.Names.{Among}
use Rattle.cg_svspec.specs.Characters.{IsName}
use Rattle.cg_svspec.specs.Printable.{AllOf, IsSomeOf}
use Rattle.cg_svspec.specs.Tree.{net, cut, lit, cat, equal, none, expressions, Entry}
use Rattle.cg_svspec.proofs.NamesLemmas.{none_repeats}
use Rattle.cg_svspec.specs.Links.{Link}
use Rattle.cg_desc.specs.declared.crossbar.Range.{Range}
use Rattle.cg_busspec.specs.Crossbar.{device_ranges, Crossbar, node}
use Rattle.cg_busspec.specs.Ranges.{IsRange}
use Rattle.cg_busspec.specs.CrossbarModule.{clock_net, range_term, range_terms, select, bundle, requests, responses, fifo_instance, split_instance, join_instance}
use Rattle.cg_busspec.proofs.Selects.{power_is, power_few}
use Rattle.cg_svspec.proofs.WellNames.{literal_name}
use Rattle.cg_svspec.proofs.WellSound.{Above, Has, Sound, SoundParts, sound_deeper, sound_net, sound_cut, sound_lit, sound_any, sound_equal, sound_pick, sound_none, sound_more, sound_cat, HasPart, Sounds}

-- ---- selects

-- a range's term
term_sound : {e : Above} (q : List ℕ) (r : Range) → Has e q 70 → IsRange r → Sound e 2 (range_term q r) 1
unfolding range_term
term_sound {e} q r h g = rw (power_is r g (power_few r g)) (by (eqb g.power 32) refl) where
  below : {m n : ℕ} → m ≡ n → (k : ℕ) → k < 2 ^ n → k < 2 ^ m
  below same k low = rw same low

  by : (b : Bool) → eqb g.power 32 ≡ b → Sound e 2 (cond b (lit 1 1) (equal (cut q 63 (32 + g.power)) (lit (32 - g.power) (r.base / 2 ^ g.power)))) 1
  by true t = sound_lit 2 1 1 (omega arith) (omega arith, omega arith, omega arith)
  by false t =
      let few : g.power ≤ 32 = power_few r g in
      let less : g.power < 32 = grind (arith, nat_tests) in
      let whole : 32 - g.power + g.power ≡ 32 = omega arith in
      let low : r.base < 2 ^ 32 = omega (arith, g.ends, g.size_is, pow_pos g.power) in
      let small : r.base / 2 ^ g.power < 2 ^ (32 - g.power) = shr_below r.base (32 - g.power) g.power (below whole r.base low) in
      sound_equal (sound_cut 1 63 (32 + g.power) (32 - g.power) (omega arith) h (omega arith) (omega arith) (omega arith) (omega arith) (omega arith))
      (sound_lit 1 (32 - g.power) (r.base / 2 ^ g.power) (omega arith) (omega arith, omega arith, small))

-- the terms of good ranges are sound
terms_sound : {e : Above} (q : List ℕ) (rs : List Range) → Has e q 70 → AllOf IsRange rs → SoundParts e 2 (range_terms q rs) (length rs)
terms_sound q [] h g = sound_none 2
terms_sound q (r ∷ rs) h g = sound_more (length (r ∷ rs)) (term_sound q r h g.0) (terms_sound q rs h g.1) (omega arith)

-- there is a term
some_term : (q : List ℕ) (rs : List Range) → IsSomeOf rs → HasPart (range_terms q rs)
some_term q [] h = absurd h
some_term q (r ∷ rs) h = tt

-- what is asked of the ranges of a device
pub record RangesFit (rs : List Range) : Type 0 where
  pub each : AllOf IsRange rs
  pub some : IsSomeOf rs
  pub few : length rs < 2 ^ 32

-- a host's select is sound
pub select_sound : {e : Above} (x : Crossbar) (q : List ℕ) (j : ℕ) (ds : List ℕ) → Has e q 70 → j + length ds ≤ 64 → ((d : ℕ) → Among d ds → RangesFit (device_ranges x d))
    → Sound e (5 + length ds) (select x q j ds) 8
select_sound x q j [] h few g = sound_lit 5 8 j (omega arith) (omega arith, omega arith, omega arith)
select_sound {e} x q j (d ∷ ds) h few g =
    let fit = g d (inl refl) in
    let deep : 5 + length (d ∷ ds) ≡ suc (5 + length ds) = omega arith in
    let terms = sound_any (sound_cat (some_term q (device_ranges x d) fit.some) fit.few (terms_sound q (device_ranges x d) h fit.each)) in
    subst (λ z. Sound e z (select x q j (d ∷ ds)) 8) (sym deep)
    (sound_pick (sound_deeper terms (omega arith)) (sound_lit (5 + length ds) 8 j (omega arith) (omega arith, omega arith, omega arith))
    (select_sound x q (suc j) ds h (omega (arith, few)) (λ k m. g k (inr m))))

-- ---- bundles

-- all nets are known, with this width
abbrev pub AllHave : Above → ℕ → List (List ℕ) → Type 0
AllHave e w [] = Unit {0}
AllHave e w (n ∷ ns) = Has e n w × AllHave e w ns

-- nets of two lists may be used
all_have_join : (e : Above) (w : ℕ) (xs ys : List (List ℕ)) → AllHave e w xs → AllHave e w ys → AllHave e w (xs ++ ys)
all_have_join e w [] ys a b = b
all_have_join e w (x ∷ xs) ys a b = (a.0, all_have_join e w xs ys a.1 b)

-- in the reverse order too
all_have_reverse : (e : Above) (w : ℕ) (xs : List (List ℕ)) → AllHave e w xs → AllHave e w (reverse xs)
all_have_reverse e w [] a = tt
all_have_reverse e w (x ∷ xs) a = subst (AllHave e w) (sym (reverse-append (x ∷ []) xs)) (all_have_join e w (reverse xs) (x ∷ []) (all_have_reverse e w xs a.1) (a.0, tt))

-- lengths add up
join_long : (xs ys : List (List ℕ)) → length (xs ++ ys) ≡ length xs + length ys
join_long [] ys = omega arith
join_long (x ∷ xs) ys = omega (arith, join_long xs ys)

-- and stay in the reverse order
reverse_long : (xs : List (List ℕ)) → length (reverse xs) ≡ length xs
reverse_long [] = refl
reverse_long (x ∷ xs) = ap length (reverse-append (x ∷ []) xs) ∙ omega (arith, join_long (reverse xs) (x ∷ []), reverse_long xs)

-- nets side by side are sound
nets_sound : {e : Above} (w : ℕ) (ns : List (List ℕ)) → AllHave e w ns → SoundParts e 1 (expressions (map net ns)) (w * length ns)
nets_sound {e} w [] a = subst (SoundParts e 1 none) (omega arith) (sound_none 1)
nets_sound w (n ∷ ns) a = sound_more (w * length (n ∷ ns)) (sound_net 1 (omega arith) a.0) (nets_sound w ns a.1) (omega arith)

-- there is a net
some_net : (ns : List (List ℕ)) → 0 < length ns → HasPart (expressions (map net ns))
some_net [] h = absurd (omega arith)
some_net (n ∷ ns) h = tt

-- a bundle is sound
pub bundle_sound : {e : Above} (w : ℕ) (ns : List (List ℕ)) → AllHave e w ns → 0 < length ns → length ns ≤ 64 → w ≤ 70 → Sound e 2 (bundle ns) (w * length ns)
unfolding bundle
bundle_sound {e} w ns a some few narrow =
    let long : length (reverse ns) ≡ length ns = reverse_long ns in
    let small : w * length ns < 2 ^ 32 = omega (arith, product (length ns) few) in
    subst (λ z. Sound e 2 (cat (expressions (map net (reverse ns)))) (w * z)) long
    (sound_cat (some_net (reverse ns) (omega (arith, long))) (subst (λ z. w * z < 2 ^ 32) (sym long) small) (nets_sound w (reverse ns) (all_have_reverse e w ns a))) where
      product : (n : ℕ) → n ≤ 64 → w * n ≤ 70 * 64
      product n h = mul-le-mul narrow h

-- ---- parts

-- a link's nets are known
pub record LinkHas (e : Above) (l : Link) : Type 0 where
  pub request : Has e l.request 70
  pub response : Has e l.response 33

-- all links may be used
abbrev pub LinksHave : Above → List Link → Type 0
LinksHave e [] = Unit {0}
LinksHave e (l ∷ ls) = LinkHas e l × LinksHave e ls

-- so may their requests
requests_have : (e : Above) (ls : List Link) → LinksHave e ls → AllHave e 70 (requests ls)
requests_have e [] h = tt
requests_have e (l ∷ ls) h = (h.0.request, requests_have e ls h.1)

-- and their responses
responses_have : (e : Above) (ls : List Link) → LinksHave e ls → AllHave e 33 (responses ls)
responses_have e [] h = tt
responses_have e (l ∷ ls) h = (h.0.response, responses_have e ls h.1)

-- there are as many requests as links
requests_long : (ls : List Link) → length (requests ls) ≡ length ls
requests_long [] = refl
requests_long (l ∷ ls) = ap suc (requests_long ls)

-- and as many responses
responses_long : (ls : List Link) → length (responses ls) ≡ length ls
responses_long [] = refl
responses_long (l ∷ ls) = ap suc (responses_long ls)

-- requests side by side are sound
requests_sound : (e : Above) (ls : List Link) → LinksHave e ls → 0 < length ls → length ls ≤ 64 → Sound e 2 (bundle (requests ls)) (70 * length ls)
requests_sound e ls h some few =
    subst (λ z. Sound e 2 (bundle (requests ls)) (70 * z)) (requests_long ls)
    (bundle_sound 70 (requests ls) (requests_have e ls h) (omega (arith, requests_long ls, some)) (omega (arith, requests_long ls, few)) (omega arith))

-- so are responses
responses_sound : (e : Above) (ls : List Link) → LinksHave e ls → 0 < length ls → length ls ≤ 64 → Sound e 2 (bundle (responses ls)) (33 * length ls)
responses_sound e ls h some few =
    subst (λ z. Sound e 2 (bundle (responses ls)) (33 * z)) (responses_long ls)
    (bundle_sound 33 (responses ls) (responses_have e ls h) (omega (arith, responses_long ls, some)) (omega (arith, responses_long ls, few)) (omega arith))

-- depths
one_low : 1 ≤ 128
one_low = omega arith

-- a depth of two is low enough
two_low : {d : ℕ} → d ≤ 2 → d ≤ 128
two_low h = omega arith

-- a FIFO is sound before sound entries
pub fifo_sounds : {inputs : List (List ℕ)} {e : Above} {es : List Entry} (name near far : List ℕ) (a b : Link) → IsName name → Has e (clock_net near) 1 → Has e (clock_net far) 1
    → LinkHas e a → LinkHas e b → Sounds inputs e es → Sounds inputs e (fifo_instance name near far a b ∷ es)
unfolding fifo_instance
fifo_sounds {inputs} {e} {es} name near far a b n c d ha hb later = record {
  printable = (
    (
      literal_name (codes "tlul_fifo_async") refl refl,
      tt,
      n,
      tt,
      (
        (literal_name (codes "clk_h_i") refl refl, (c.declared.name, one_low)),
        (
          (literal_name (codes "clk_d_i") refl refl, (d.declared.name, one_low)),
          (
            (literal_name (codes "req_i") refl refl, (ha.request.declared.name, one_low)),
            (
              (literal_name (codes "rsp_o") refl refl, (ha.response.declared.name, one_low)),
              (
                (literal_name (codes "req_o") refl refl, (hb.request.declared.name, one_low)),
                ((literal_name (codes "rsp_i") refl refl, (hb.response.declared.name, one_low)), tt),
              ),
            ),
          ),
        ),
      ),
    ),
    later.printable,
  );
  fit = (
    record {
      no_parameter = refl;
      ports = record {
        once = none_repeats (codes "clk_h_i" ∷ codes "clk_d_i" ∷ codes "req_i" ∷ codes "rsp_o" ∷ codes "req_o" ∷ codes "rsp_i" ∷ []) refl;
        count = refl;
        each = (c.declared.net, (d.declared.net, (ha.request.declared.net, (ha.response.declared.net, (hb.request.declared.net, (hb.response.declared.net, tt))))));
      };
    },
    (c.known, (d.known, (ha.request.known, (ha.response.known, (hb.request.known, (hb.response.known, tt)))))),
    later.fit,
  );
}

-- a 1-to-N socket
pub split_sounds : {inputs : List (List ℕ)} {e : Above} {es : List Entry} (name clock s : List ℕ) (a : Link) (bs : List Link) → IsName name → Has e (clock_net clock) 1 → Has e s 8
    → LinkHas e a → LinksHave e bs → 0 < length bs → length bs ≤ 64 → Sounds inputs e es → Sounds inputs e (split_instance name clock s a bs ∷ es)
unfolding split_instance
split_sounds {inputs} {e} {es} name clock s a bs n c hs ha hb some few later =
    let rq = requests_sound e bs hb some few in
    let rs = responses_sound e bs hb some few in
    record {
      printable = (
        (
          literal_name (codes "tlul_socket_1n") refl refl,
          ((literal_name (codes "N") refl refl, omega (arith, few)), tt),
          n,
          tt,
          (
            (literal_name (codes "clk_i") refl refl, (c.declared.name, one_low)),
            (
              (literal_name (codes "sel_i") refl refl, (hs.declared.name, one_low)),
              (
                (literal_name (codes "req_i") refl refl, (ha.request.declared.name, one_low)),
                (
                  (literal_name (codes "rsp_o") refl refl, (ha.response.declared.name, one_low)),
                  (
                    (literal_name (codes "req_o") refl refl, (rq.printable, two_low rq.deep)),
                    ((literal_name (codes "rsp_i") refl refl, (rs.printable, two_low rs.deep)), tt),
                  ),
                ),
              ),
            ),
          ),
        ),
        later.printable,
      );
      fit = (
        record {
          links = length bs;
          count = refl;
          links_are = refl;
          ports = record {
            once = none_repeats (codes "clk_i" ∷ codes "sel_i" ∷ codes "req_i" ∷ codes "rsp_o" ∷ codes "req_o" ∷ codes "rsp_i" ∷ []) refl;
            count = refl;
            each = (c.declared.net, (hs.declared.net, (ha.request.declared.net, (ha.response.declared.net, (rq.width, (rs.width, tt))))));
          };
        },
        (c.known, (hs.known, (ha.request.known, (ha.response.known, (rq.uses, (rs.uses, tt)))))),
        later.fit,
      );
    }

-- an M-to-1 socket
pub join_sounds : {inputs : List (List ℕ)} {e : Above} {es : List Entry} (name clock : List ℕ) (ls : List Link) (b : Link) → IsName name → Has e (clock_net clock) 1
    → LinksHave e ls → LinkHas e b → 0 < length ls → length ls ≤ 64 → Sounds inputs e es → Sounds inputs e (join_instance name clock ls b ∷ es)
unfolding join_instance
join_sounds {inputs} {e} {es} name clock ls b n c hl hb some few later =
    let rq = requests_sound e ls hl some few in
    let rs = responses_sound e ls hl some few in
    record {
      printable = (
        (
          literal_name (codes "tlul_socket_m1") refl refl,
          ((literal_name (codes "M") refl refl, omega (arith, few)), tt),
          n,
          tt,
          (
            (literal_name (codes "clk_i") refl refl, (c.declared.name, one_low)),
            (
              (literal_name (codes "req_i") refl refl, (rq.printable, two_low rq.deep)),
              (
                (literal_name (codes "rsp_o") refl refl, (rs.printable, two_low rs.deep)),
                (
                  (literal_name (codes "req_o") refl refl, (hb.request.declared.name, one_low)),
                  ((literal_name (codes "rsp_i") refl refl, (hb.response.declared.name, one_low)), tt),
                ),
              ),
            ),
          ),
        ),
        later.printable,
      );
      fit = (
        record {
          links = length ls;
          count = refl;
          links_are = refl;
          ports = record {
            once = none_repeats (codes "clk_i" ∷ codes "req_i" ∷ codes "rsp_o" ∷ codes "req_o" ∷ codes "rsp_i" ∷ []) refl;
            count = refl;
            each = (c.declared.net, (rq.width, (rs.width, (hb.request.declared.net, (hb.response.declared.net, tt)))));
          };
        },
        (c.known, (rq.uses, (rs.uses, (hb.request.known, (hb.response.known, tt))))),
        later.fit,
      );
    }
