-- What a signal's text names among the ports of a block.
use Rattle.std.proofs.Common.{◌≡◌, ℕ, ◌+◌, ◌<◌, ◌≤◌, ◌⊎◌, ◌==◌, Bool, true, false, List, [], ◌∷◌, ◌++◌, length, map, take, drop, Option, Some, None, inl, inr, refl, sym, ap, subst, ◌∙◌, arith}
use Rattle.std.specs.List.{position, slice_get}
use Rattle.std.specs.Str.{bytes_eq}
use Rattle.std.proofs.lemmas.Bool.{false≢true}
use Rattle.std.proofs.lemmas.List.{length-append, take-append-drop}
use Rattle.std.proofs.lemmas.Option.{slice_get_within}
use Rattle.cg_svspec.proofs.NamesLemmas.{name_is_itself, same_name}
use Rattle.cg_svspec.specs.Characters.{IsWord}
use Rattle.cg_svspec.specs.Printable.{AllOf}
use Rattle.cg_desc.specs.Valid.{AreValidPins, IsShortName, IsValidPin}
use Rattle.cg_desc.specs.declared.block.IoDesc.{IoDesc}
use Rattle.cg_desc.specs.declared.block.IoDir.{IoDir}
use Rattle.cg_desc.specs.declared.block.IoDir.TheVariants.{In, Out, InOut}
use Rattle.cg_desc.proofs.Numbered.{IsFirstItem, first_found, found_first, image_at, image_of, same_item}
use Rattle.cg_pinmux.specs.Brackets.{bit_number}
use Rattle.cg_pinmux.specs.Regions.{InPart, IsPart, IsPartOf, bit_text}
use Rattle.cg_pinmux.specs.Signals.{HasPort, IsFirstOf, NamesBit, PortIs}
use Rattle.cg_pinmux.specs.declared.region.Region.{Region}
use Rattle.cg_pinmux.proofs.Reading.{Plain, number_read, number_reads, plain_has_none, split_at, split_once, word_plain}
use Rattle.cg_pinmux.proofs.Lists.{all_at, all_both, all_weaker}

-- ---- the first of a name

pub first_is : {X : Type 0} (v : X → List ℕ) (xs : List X) (name : List ℕ) (i : ℕ) → position (λ x. bytes_eq (v x) name) xs ≡ Some i → IsFirstOf (map v xs) name i
first_is {X} v xs name i is =
    let one = found_first (λ x. bytes_eq (v x) name) xs i is in
    record { is = image_at v xs i one.item one.is ∙ ap Some (same_name (v one.item) name one.passes); first = λ j less there. before one j less there } where
      before : IsFirstItem (λ x. bytes_eq (v x) name) xs i → (j : ℕ) → j < i → slice_get (map v xs) j ≡ Some name → ⊥
      before one j less there =
          let item = image_of v xs j name there in
          let passes : bytes_eq (v item.0) name ≡ true = subst (λ n. bytes_eq (v item.0) n ≡ true) item.2 (name_is_itself (v item.0)) in
          false≢true (sym (one.before j item.0 less item.1) ∙ passes)

pub is_first : {X : Type 0} (v : X → List ℕ) (xs : List X) (name : List ℕ) (i : ℕ) → IsFirstOf (map v xs) name i → position (λ x. bytes_eq (v x) name) xs ≡ Some i
is_first {X} v xs name i first =
    let item = image_of v xs i name first.is in
    first_found (λ x. bytes_eq (v x) name) xs i
    (record {
      item = item.0;
      is = item.1;
      passes = subst (λ n. bytes_eq (v item.0) n ≡ true) item.2 (name_is_itself (v item.0));
      before = λ j y less there. by j y less there (bytes_eq (v y) name) refl;
    }) where
      by : (j : ℕ) (y : X) → j < i → slice_get xs j ≡ Some y → (b : Bool) → bytes_eq (v y) name ≡ b → b ≡ false
      by j y less there true is = absurd (first.first j less (image_at v xs j y there ∙ ap Some (same_name (v y) name is)))
      by j y less there false is = refl

pub first_one : {X : Type 0} (v : X → List ℕ) (xs : List X) (name : List ℕ) (i j : ℕ) → IsFirstOf (map v xs) name i → IsFirstOf (map v xs) name j → i ≡ j
first_one v xs name i j a b = let e : Some i ≡ Some j = sym (is_first v xs name i a) ∙ is_first v xs name j b in cc

pub first_none : {X : Type 0} (v : X → List ℕ) (xs : List X) (name : List ℕ) → position (λ x. bytes_eq (v x) name) xs ≡ None → (i : ℕ) → IsFirstOf (map v xs) name i → ⊥
first_none v xs name is i first = let e : None ≡ Some i = sym is ∙ is_first v xs name i first in cc

-- ---- valid ports

pub record IsSomePin (port : IoDesc) : Type 0 where
  pub name : IsShortName port.name
  pub some : 0 < port.width
  pub few : port.width ≤ 64

some_pin : (dir : IoDir) (port : IoDesc) → IsValidPin dir port → IsSomePin port
some_pin dir port valid = record { name = valid.name; some = valid.some_bit; few = valid.few_bits }

pub pin_at : (ports : List IoDesc) (p : ℕ) (port : IoDesc) → AreValidPins ports → PortIs ports p port → IsSomePin port
pin_at ports p port valid is =
    all_at IsSomePin ports p port
    (subst (λ ps. AllOf IsSomePin ps) (sym valid.stand)
    (all_both IsSomePin valid.inputs (valid.outputs ++ valid.inouts) (all_weaker (IsValidPin In) IsSomePin valid.inputs (some_pin In) valid.valid_inputs)
    (all_both IsSomePin valid.outputs valid.inouts (all_weaker (IsValidPin Out) IsSomePin valid.outputs (some_pin Out) valid.valid_outputs)
    (all_weaker (IsValidPin InOut) IsSomePin valid.inouts (some_pin InOut) valid.valid_inouts))))
    is

pub few_pins : (ports : List IoDesc) → AreValidPins ports → length ports ≤ 192
few_pins ports valid =
    let e : length ports ≡ length (valid.inputs ++ (valid.outputs ++ valid.inouts)) = ap length valid.stand in
    omega (arith, e, length-append valid.inputs (valid.outputs ++ valid.inouts), length-append valid.outputs valid.inouts, valid.few_inputs, valid.few_outputs, valid.few_inouts)

-- ---- texts

word_some : (w : List ℕ) → IsWord w → 0 < length w
word_some [] is = absurd is
word_some (c ∷ cs) is = omega arith

none_there : (p : ℕ) (port : IoDesc) → PortIs [] p port → ⊥
none_there p port is = cc

-- nothing has no bracket
nothing : (name rest : List ℕ) → [] ≡ name ++ (91 ∷ rest) → ⊥
nothing [] rest is = cc
nothing (c ∷ cs) rest is = cc

-- a number is written in one way
one_number : (j k : ℕ) → j < 100 → k < 100 → bit_text j ≡ bit_text k → j ≡ k
one_number j k a b is = let e : Some j ≡ Some k = sym (number_reads j a) ∙ ap bit_number is ∙ number_reads k b in cc

-- the three ways in which a text names a bit
pub names_cases : (ports : List IoDesc) (text : List ℕ) (p k : ℕ) → NamesBit ports text p k
    → ((text ≡ []) × ((port : IoDesc) × PortIs ports p port × (k < port.width))) ⊎ (HasPort ports text p k ⊎ ((name : List ℕ) × (text ≡ name ++ bit_text k) × HasPort ports name p k))
names_cases ports _ _ _ (NamesBit.of_all p k port is less) = inl (refl, (port, is, less))
names_cases ports _ _ _ (NamesBit.of_port name p k has) = inr (inl has)
names_cases ports _ _ _ (NamesBit.one name p k has) = inr (inr (name, refl, has))

module _ (ports : List IoDesc) (valid : AreValidPins ports) where
  -- a name that a port has
  pub port_plain : (name : List ℕ) (p k : ℕ) → HasPort ports name p k → Plain name
  port_plain name p k has =
      let item = image_of (λ (io : IoDesc). io.name) ports p name has.first.is in
      subst Plain item.2 (word_plain item.0.name (pin_at ports p item.0 valid item.1).name.0.0)

  pub port_some : (name : List ℕ) (p k : ℕ) → HasPort ports name p k → 0 < length name
  port_some name p k has =
      let item = image_of (λ (io : IoDesc). io.name) ports p name has.first.is in
      subst (λ n. 0 < length n) item.2 (word_some item.0.name (pin_at ports p item.0 valid item.1).name.0.0)

  pub port_few : (name : List ℕ) (p k : ℕ) → HasPort ports name p k → k < 64
  port_few name p k has = let pin = pin_at ports p has.port valid has.is in omega (arith, pin.few, has.within)

  -- ---- all ports

  pub no_ports : (inst : ℕ) → ports ≡ [] → IsPart ports inst [] None
  no_ports inst is p k names = elim (names_cases ports [] p k names) [
    | inl all ↦ none_there p all.1.0 (subst (λ ps. PortIs ps p all.1.0) is all.1.1)
    | inr (inl has) ↦ absurd (omega (arith, port_some [] p k has))
    | inr (inr one) ↦ nothing one.0 _ one.1
  ]

  pub every_port : (inst high : ℕ) → high ≡ 64 → 0 < length ports → IsPartOf ports inst [] (record { inst = inst; first = 0; end = length ports; low = 0; high = high })
  every_port inst high is some = record {
    instance = refl;
    normal = record { some_port = some; there = omega arith; some_bit = omega (arith, is); each = λ p port a b there. (pin_at ports p port valid there).some };
    just = λ p k. (to p k, λ part. NamesBit.of_all p k part.port part.is part.within);
  } where
    to : (p k : ℕ) → NamesBit ports [] p k → InPart ports (record { inst = inst; first = 0; end = length ports; low = 0; high = high }) p k
    to p k names = elim (names_cases ports [] p k names) [
      | inl all ↦ record {
        from_first = omega arith;
        before_end = slice_get_within ports p all.1.0 all.1.1;
        from_low = omega arith;
        before_high = let pin = pin_at ports p all.1.0 valid all.1.1 in omega (arith, pin.few, all.1.2, is);
        port = all.1.0;
        is = all.1.1;
        within = all.1.2;
      }
      | inr (inl has) ↦ absurd (omega (arith, port_some [] p k has))
      | inr (inr one) ↦ absurd (nothing one.0 _ one.1)
    ]

  -- ---- one port

  pub no_port : (inst : ℕ) (name : List ℕ) → 0 < length name → Plain name → position (λ port. bytes_eq port.name name) ports ≡ None → IsPart ports inst name None
  no_port inst name some plain is p k names = elim (names_cases ports name p k names) [
    | inl all ↦ let e : length name ≡ 0 = ap length all.0 in absurd (omega (arith, e))
    | inr (inl has) ↦ first_none (λ (io : IoDesc). io.name) ports name is p has.first
    | inr (inr one) ↦ plain_has_none name one.0 _ plain one.1
  ]

  pub whole_port : (inst q high : ℕ) (name : List ℕ) → high ≡ 64 → 0 < length name → Plain name → position (λ port. bytes_eq port.name name) ports ≡ Some q → q < length ports
      → IsPartOf ports inst name (record { inst = inst; first = q; end = q + 1; low = 0; high = high })
  whole_port inst q high name is some plain at within = record {
    instance = refl;
    normal = record { some_port = omega arith; there = omega arith; some_bit = omega (arith, is); each = λ p port a b there. (pin_at ports p port valid there).some };
    just = λ p k. (to p k, from p k);
  } where
    first : IsFirstOf (map (λ (io : IoDesc). io.name) ports) name q
    first = first_is (λ (io : IoDesc). io.name) ports name q at

    to : (p k : ℕ) → NamesBit ports name p k → InPart ports (record { inst = inst; first = q; end = q + 1; low = 0; high = high }) p k
    to p k names = elim (names_cases ports name p k names) [
      | inl all ↦ let e : length name ≡ 0 = ap length all.0 in absurd (omega (arith, e))
      | inr (inl has) ↦
          let same : p ≡ q = first_one (λ (io : IoDesc). io.name) ports name p q has.first first in
          record {
            from_first = omega (arith, same);
            before_end = omega (arith, same);
            from_low = omega arith;
            before_high = omega (arith, port_few name p k has, is);
            port = has.port;
            is = has.is;
            within = has.within;
          }
      | inr (inr one) ↦ absurd (plain_has_none name one.0 _ plain one.1)
    ]

    from : (p k : ℕ) → InPart ports (record { inst = inst; first = q; end = q + 1; low = 0; high = high }) p k → NamesBit ports name p k
    from p k part =
        let same : q ≡ p = omega (arith, part.from_first, part.before_end) in
        NamesBit.of_port name p k (record { first = subst (λ n. IsFirstOf (map (λ (io : IoDesc). io.name) ports) name n) same first; port = part.port; is = part.is; within = part.within })

  -- ---- one bit

  -- where a text ends in a bracket, a port's name stands before it
  same_parts : (name : List ℕ) (bit : ℕ) → Plain name → bit < 100 → (p k : ℕ) → NamesBit ports (name ++ bit_text bit) p k → HasPort ports name p k × (k ≡ bit)
  same_parts name bit plain few p k names = elim (names_cases ports (name ++ bit_text bit) p k names) [
    | inl all ↦ absurd (nothing name _ (sym all.0))
    | inr (inl has) ↦ absurd (plain_has_none _ name _ (port_plain _ p k has) refl)
    | inr (inr one) ↦
        let same = split_once name one.0 _ _ plain (port_plain one.0 p k one.2) one.1 in
        let texts : bit_text bit ≡ bit_text k = ap (λ rest. 91 ∷ rest) same.1 in
        let number : k ≡ bit = one_number k bit (let small = port_few one.0 p k one.2 in omega (arith, small)) few (sym texts) in
        (subst (λ n. HasPort ports n p k) (sym same.0) one.2, number)
  ]

  pub no_port_bit : (inst : ℕ) (name : List ℕ) (bit : ℕ) → Plain name → bit < 100 → position (λ port. bytes_eq port.name name) ports ≡ None → IsPart ports inst (name ++ bit_text bit) None
  no_port_bit inst name bit plain few is p k names = first_none (λ (io : IoDesc). io.name) ports name is p (same_parts name bit plain few p k names).0.first

  pub no_bit : (inst q : ℕ) (name : List ℕ) (bit : ℕ) (port : IoDesc) → Plain name → bit < 100 → position (λ port. bytes_eq port.name name) ports ≡ Some q → PortIs ports q port → port.width ≤ bit
      → IsPart ports inst (name ++ bit_text bit) None
  no_bit inst q name bit port plain few at there past p k names =
      let has = same_parts name bit plain few p k names in
      let same : p ≡ q = first_one (λ (io : IoDesc). io.name) ports name p q has.0.first (first_is (λ (io : IoDesc). io.name) ports name q at) in
      let one : has.0.port ≡ port = same_item ports q has.0.port port (subst (λ n. PortIs ports n has.0.port) same has.0.is) there in
      let width : has.0.port.width ≡ port.width = ap (λ (x : IoDesc). x.width) one in
      absurd (omega (arith, width, past, has.0.within, has.1))

  pub one_bit : (inst q : ℕ) (name : List ℕ) (bit : ℕ) (port : IoDesc) → Plain name → bit < 100 → position (λ port. bytes_eq port.name name) ports ≡ Some q → PortIs ports q port → bit < port.width
      → IsPartOf ports inst (name ++ bit_text bit) (record { inst = inst; first = q; end = q + 1; low = bit; high = bit + 1 })
  one_bit inst q name bit port plain few at there within = record {
    instance = refl;
    normal = record { some_port = omega arith; there = (let less = slice_get_within ports q port there in omega (arith, less)); some_bit = omega arith; each = each };
    just = λ p k. (to p k, from p k);
  } where
    first : IsFirstOf (map (λ (io : IoDesc). io.name) ports) name q
    first = first_is (λ (io : IoDesc). io.name) ports name q at

    each : (p : ℕ) (other : IoDesc) → q ≤ p → p < q + 1 → PortIs ports p other → bit < other.width
    each p other a b is =
        let same : p ≡ q = omega (arith, a, b) in
        let one : port ≡ other = same_item ports q port other there (subst (λ n. PortIs ports n other) same is) in
        subst (λ (x : IoDesc). bit < x.width) one within

    to : (p k : ℕ) → NamesBit ports (name ++ bit_text bit) p k → InPart ports (record { inst = inst; first = q; end = q + 1; low = bit; high = bit + 1 }) p k
    to p k names =
        let has = same_parts name bit plain few p k names in
        let same : p ≡ q = first_one (λ (io : IoDesc). io.name) ports name p q has.0.first first in
        record {
          from_first = omega (arith, same);
          before_end = omega (arith, same);
          from_low = omega (arith, has.1);
          before_high = omega (arith, has.1);
          port = has.0.port;
          is = has.0.is;
          within = has.0.within;
        }

    from : (p k : ℕ) → InPart ports (record { inst = inst; first = q; end = q + 1; low = bit; high = bit + 1 }) p k → NamesBit ports (name ++ bit_text bit) p k
    from p k part =
        let same : q ≡ p = omega (arith, part.from_first, part.before_end) in
        let number : k ≡ bit = omega (arith, part.from_low, part.before_high) in
        subst (λ b. NamesBit ports (name ++ bit_text b) p k) number
        (NamesBit.one name p k (record { first = subst (λ n. IsFirstOf (map (λ (io : IoDesc). io.name) ports) name n) same first; port = part.port; is = part.is; within = part.within }))

  -- ---- a text with a bracket

  pub numbered : (inst : ℕ) (text : List ℕ) (i bit : ℕ) (result : Option Region) → position (λ c. c == 91) text ≡ Some i → bit_number (drop i text) ≡ Some bit
      → IsPart ports inst (take i text ++ bit_text bit) result → IsPart ports inst text result
  numbered inst text i bit result at read part =
      let is : take i text ++ bit_text bit ≡ text = ap (λ xs. take i text ++ xs) (sym (number_read (drop i text) bit read).1) ∙ take-append-drop i text in
      subst (λ t. IsPart ports inst t result) is part

  pub not_numbered : (inst : ℕ) (text : List ℕ) (i : ℕ) → position (λ c. c == 91) text ≡ Some i → bit_number (drop i text) ≡ None → IsPart ports inst text None
  not_numbered inst text i at none p k names =
      let split = split_at text i at in
      elim (names_cases ports text p k names) [
        | inl all ↦ nothing (take i text) split.rest (sym all.0 ∙ split.whole)
        | inr (inl has) ↦ plain_has_none text (take i text) split.rest (port_plain text p k has) split.whole
        | inr (inr one) ↦
            let same = split_once (take i text) one.0 split.rest _ split.plain (port_plain one.0 p k one.2) (sym split.whole ∙ one.1) in
            let reads : bit_number (bit_text k) ≡ Some k = number_reads k (let small = port_few one.0 p k one.2 in omega (arith, small)) in
            let behind : drop i text ≡ bit_text k = split.behind ∙ ap (λ xs. 91 ∷ xs) same.1 in
            let e : None ≡ Some k = sym none ∙ ap bit_number behind ∙ reads in
            cc
      ]
