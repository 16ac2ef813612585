-- The bytes of a drill are encoded by the grammar as its sections.
use Rattle.std.proofs.Common.{◌≡◌, ℕ, zero, suc, ◌+◌, ◌*◌, ◌^◌, ◌<◌, ◌≤◌, pos, false, List, [], ◌∷◌, ◌++◌, length, refl, ap, sym, subst, arith, append_assoc}
use Rattle.std.proofs.lemmas.List.{append-nil, length-append, length-replicate}
use Rattle.std.proofs.lemmas.Str.{IsUtf8-from_ascii}
use Rattle.std.specs.List.{flat_map, range_with_len}
use Rattle.std.specs.Prelude.{replicate}
use Rattle.std.specs.Str.{IsAscii, IsUtf8}
use Rattle.wasm_defs.specs.Numbers.{Spells}
use Rattle.wasm_defs.specs.Items.{AllOf, Payload, body_is, each_is, item_is, listed_type_is, payload_id, payload_is, section_is, vector_is, Spelling, Vector, exactly, ◌then◌}
use Rattle.wasm_defs.specs.Outside.{magic, version}
use Rattle.module_gen.specs.Drill.{adder, below, call, code, drill_bytes, exports, functions, runner, section, sized, types}
use Rattle.module_gen.specs.Numbers.{spelling, unsigned}
use Rattle.module_gen.proofs.Lists.{call_length, adder_content as content_length}
use Rattle.wasm_defs.specs.declared.types.ValType.TheVariants.{I32}
use Rattle.wasm_defs.specs.declared.item.Item.TheVariants.{Signature}
use Rattle.drill_laws.specs.Functions.{adder_type, runner_type}
use Rattle.drill_laws.proofs.Codes.{adder_content, runner_content}
use Rattle.drill_laws.proofs.Drilled.{all_bodies, all_functions, bodies_content, bodies_count, bodies_from, body_at, code_at, code_content, code_inside, code_section, drill_sections, export_items, exports_at, exports_content, exports_inside, exports_section, function_items, functions_at, functions_content, functions_count, functions_inside, functions_section, inside_of, run_name, signatures, types_section}
use Rattle.drill_laws.proofs.Spellings.{all_short, one_byte, signed_short, sized_short, unsigned_short, unsigned_spells}

-- ---- sections

section_made : (at id : ℕ) (content : List ℕ) (p : Payload) → payload_id p ≡ id → length content < 2 ^ 32 → payload_is p (inside_of at content) content
    → section_is (record { id = at; size = at + 1; payload = p }) at (section id content)
section_made at id content p same small is = record {
  front = id ∷ [];
  back = sized content;
  parts = refl;
  first = (refl, ap (λ x. x ∷ []) (sym same));
  second = record {
    front = unsigned (length content);
    content = content;
    parts = refl;
    size = (refl, unsigned_spells (length content) small);
    is = is;
  };
}

-- ---- functions

functions_spelled : (at n : ℕ) → each_is item_is (function_items at n) at (replicate n 0x00 ++ 0x01 ∷ [])
functions_spelled at zero = record { front = 0x01 ∷ []; back = []; parts = refl; first = (refl, one_byte 1 (omega arith)); second = refl }
functions_spelled at (suc n) = record {
  front = 0x00 ∷ [];
  back = replicate n 0x00 ++ 0x01 ∷ [];
  parts = refl;
  first = (refl, one_byte 0 (omega arith));
  second = functions_spelled (at + 1) n;
}

all_are_functions : (at n : ℕ) → AllOf 3 (function_items at n)
all_are_functions at zero = (refl, tt)
all_are_functions at (suc n) = (refl, all_are_functions (at + 1) n)

-- ---- bodies

body_spelled : (at : ℕ) (content : List ℕ) → length content < 2 ^ 32 → 2 ≤ length content → body_is (body_at at content) at (sized content)
body_spelled at content small least = record {
  front = unsigned (length content);
  content = content;
  parts = refl;
  size = (refl, unsigned_spells (length content) small);
  is = (refl, refl, least);
}

pub adder_content_short : (i : ℕ) → length (adder_content i) ≤ 11
adder_content_short i = let size = content_length i in let few = signed_short i in omega (arith, size, few)

adder_short : (i : ℕ) → length (adder i) ≤ 16
unfolding adder
adder_short i =
    let size = content_length i in
    let few = signed_short i in
    let whole = sized_short (adder_content i) in
    omega (arith, size, few, whole)

adder_spelled : (at i : ℕ) → body_is (body_at at (adder_content i)) at (adder i)
unfolding adder
adder_spelled at i =
    let size = content_length i in
    let few = signed_short i in
    body_spelled at (adder_content i) (omega (arith, size, few)) (omega (arith, size))

pub runner_length : (n : ℕ) → length (runner_content n) ≡ 4 + length (flat_map call (below n))
runner_length n = let parts = length-append (flat_map call (below n)) (0x0B ∷ []) in omega (arith, parts)

call_short : (i : ℕ) → length (call i) ≤ 6
call_short i = let size = call_length i in let few = unsigned_short i in omega (arith, size, few)

pub runner_short : (n : ℕ) → length (runner_content n) ≤ 4 + 6 * n
runner_short n = let size = runner_length n in let few = all_short call 6 0 n call_short in omega (arith, size, few)

runner_spelled : (at n : ℕ) → n ≤ 50000 → body_is (body_at at (runner_content n)) at (runner n)
runner_spelled at n small =
    let size = runner_length n in
    let few = runner_short n in
    body_spelled at (runner_content n) (omega (arith, few, small)) (omega (arith, size))

bodies_spelled : (at first count n : ℕ) → n ≤ 50000 → each_is body_is (bodies_from at first count n) at (flat_map adder (range_with_len first count) ++ runner n)
bodies_spelled at first zero n small = record { front = runner n; back = []; parts = sym (append-nil (runner n)); first = runner_spelled at n small; second = refl }
bodies_spelled at first (suc k) n small = record {
  front = adder first;
  back = flat_map adder (range_with_len (first + 1) k) ++ runner n;
  parts = append_assoc (adder first) (flat_map adder (range_with_len (first + 1) k)) (runner n);
  first = adder_spelled at first;
  second = bodies_spelled (at + length (adder first)) (first + 1) k n small;
}

-- ---- vectors

vector_made : {A : Type 0} (p : A → Spelling) (at k : ℕ) (xs : List A) (bytes : List ℕ) → length xs ≡ k → k < 2 ^ 32 → each_is p xs (at + length (unsigned k)) bytes → vector_is p at xs at (unsigned k ++ bytes)
vector_made p at k xs bytes same small each = record {
  front = unsigned k;
  back = bytes;
  parts = refl;
  first = (refl, subst (λ (m : ℕ). Spells (pos m) 32 false (unsigned k)) (sym same) (unsigned_spells k small));
  second = each;
}

-- a count of one byte
vector_of : {A : Type 0} (p : A → Spelling) (at : ℕ) (xs : List A) (bytes : List ℕ) → length xs < 128 → each_is p xs (at + 1) bytes → vector_is p at xs at (length xs ∷ bytes)
vector_of p at xs bytes small each = record { front = length xs ∷ []; back = bytes; parts = refl; first = (refl, one_byte (length xs) small); second = each }

-- ---- what the sections hold

types_content : List ℕ
types_content = 0x02 ∷ 0x60 ∷ 0x01 ∷ 0x7F ∷ 0x01 ∷ 0x7F ∷ 0x60 ∷ 0x00 ∷ 0x01 ∷ 0x7F ∷ []

one_i32 : (at : ℕ) → each_is listed_type_is (I32 ∷ []) at (0x7F ∷ [])
one_i32 at = record { front = 0x7F ∷ []; back = []; parts = refl; first = refl; second = refl }

signature_first : item_is (Signature 11 12 14 adder_type) 11 (0x60 ∷ 0x01 ∷ 0x7F ∷ 0x01 ∷ 0x7F ∷ [])
signature_first = record {
  front = 0x60 ∷ [];
  back = 0x01 ∷ 0x7F ∷ 0x01 ∷ 0x7F ∷ [];
  parts = refl;
  first = (refl, refl);
  second = record {
    front = 0x01 ∷ 0x7F ∷ [];
    back = 0x01 ∷ 0x7F ∷ [];
    parts = refl;
    first = vector_of listed_type_is 12 (I32 ∷ []) (0x7F ∷ []) (omega arith) (one_i32 13);
    second = vector_of listed_type_is 14 (I32 ∷ []) (0x7F ∷ []) (omega arith) (one_i32 15);
  };
}

signature_second : item_is (Signature 16 17 18 runner_type) 16 (0x60 ∷ 0x00 ∷ 0x01 ∷ 0x7F ∷ [])
signature_second = record {
  front = 0x60 ∷ [];
  back = 0x00 ∷ 0x01 ∷ 0x7F ∷ [];
  parts = refl;
  first = (refl, refl);
  second = record {
    front = 0x00 ∷ [];
    back = 0x01 ∷ 0x7F ∷ [];
    parts = refl;
    first = vector_of listed_type_is 17 [] [] (omega arith) refl;
    second = vector_of listed_type_is 18 (I32 ∷ []) (0x7F ∷ []) (omega arith) (one_i32 19);
  };
}

signatures_spelled : vector_is item_is 10 signatures 10 types_content
unfolding types_content
signatures_spelled = vector_of item_is 10 signatures _ (omega arith) (record {
  front = 0x60 ∷ 0x01 ∷ 0x7F ∷ 0x01 ∷ 0x7F ∷ [];
  back = 0x60 ∷ 0x00 ∷ 0x01 ∷ 0x7F ∷ [];
  parts = refl;
  first = signature_first;
  second = record { front = 0x60 ∷ 0x00 ∷ 0x01 ∷ 0x7F ∷ []; back = []; parts = refl; first = signature_second; second = refl };
})

types_spelled : section_is types_section 8 types
unfolding spelling types_content
types_spelled = section_made 8 1 types_content (Vector 1 10 signatures) refl (omega arith) ((omega arith, omega arith, λ e. absurd (omega (arith, e)), λ e. absurd (omega (arith, e)), λ e. absurd (omega (arith, e))), (refl, (refl, tt)), signatures_spelled)

pub types_length : length types ≡ 12
unfolding spelling
types_length = refl

is_run : IsUtf8 run_name
is_run = IsUtf8-from_ascii run_name ascii
  where
    ascii : IsAscii run_name
    ascii zero = omega arith
    ascii (suc zero) = omega arith
    ascii (suc (suc zero)) = omega arith
    ascii (suc (suc (suc k))) = omega arith

export_spelled : (at n : ℕ) → n < 2 ^ 32 → vector_is item_is at (export_items (at + 1) n) at (exports_content n)
export_spelled at n small = vector_of item_is at (export_items (at + 1) n) (0x03 ∷ 0x72 ∷ 0x75 ∷ 0x6E ∷ 0x00 ∷ unsigned n) (omega arith) (record {
  front = 0x03 ∷ 0x72 ∷ 0x75 ∷ 0x6E ∷ 0x00 ∷ unsigned n;
  back = [];
  parts = ap (λ (l : List ℕ). 0x03 ∷ 0x72 ∷ 0x75 ∷ 0x6E ∷ 0x00 ∷ l) (sym (append-nil (unsigned n)));
  first = record {
    front = 0x03 ∷ run_name;
    back = 0x00 ∷ unsigned n;
    parts = refl;
    first = (is_run, record { front = 0x03 ∷ []; content = run_name; parts = refl; size = (refl, one_byte 3 (omega arith)); is = refl });
    second = record { front = 0x00 ∷ []; back = unsigned n; parts = refl; first = (refl, refl); second = (refl, unsigned_spells n small) };
  };
  second = refl;
})

-- ---- the sections of a drill

module _ (n : ℕ) (most : n ≤ 50000) where
  pub functions_length : length (functions_content n) ≤ n + 6
  functions_length =
      let parts = length-append (unsigned (n + 1)) (replicate n 0x00 ++ 0x01 ∷ []) in
      let zeros = length-append {A = ℕ} (replicate n 0x00) (0x01 ∷ []) in
      let count = length-replicate {A = ℕ} n 0x00 in
      let few = unsigned_short (n + 1) in
      omega (arith, parts, zeros, count, few)

  functions_section_spelled : section_is (functions_section n) functions_at (functions n)
  functions_section_spelled =
      let few = functions_length in
      section_made functions_at 3 (functions_content n) (functions_section n).payload refl (omega (arith, few, most)) (
        (omega arith, omega arith, λ e. absurd (omega (arith, e)), λ e. absurd (omega (arith, e)), λ e. absurd (omega (arith, e))),
        all_are_functions (functions_inside n + length (unsigned (n + 1))) n,
        vector_made item_is (functions_inside n) (n + 1) (all_functions n) (replicate n 0x00 ++ 0x01 ∷ []) (functions_count (functions_inside n + length (unsigned (n + 1))) n) (omega (arith, most))
            (functions_spelled (functions_inside n + length (unsigned (n + 1))) n),
      )

  exports_section_spelled : section_is (exports_section n) (exports_at n) (exports n)
  exports_section_spelled =
      let few = unsigned_short n in
      section_made (exports_at n) 7 (exports_content n) (exports_section n).payload refl (omega (arith, few))
      ((omega arith, omega arith, λ e. absurd (omega (arith, e)), λ e. absurd (omega (arith, e)), λ e. absurd (omega (arith, e))), (refl, tt), export_spelled (exports_inside n) n (omega (arith, most)))

  pub code_length : length (code_content n) ≤ 22 * n + 20
  code_length =
      let parts = length-append (unsigned (n + 1)) (bodies_content n) in
      let bodies = length-append (flat_map adder (below n)) (runner n) in
      let adders = all_short adder 16 0 n adder_short in
      let calls = runner_short n in
      let last = sized_short (runner_content n) in
      let few = unsigned_short (n + 1) in
      omega (arith, parts, bodies, adders, calls, last, few)

  code_section_spelled : section_is (code_section n) (code_at n) (code n)
  code_section_spelled =
      let few = code_length in
      section_made (code_at n) 10 (code_content n) (code_section n).payload refl (omega (arith, few, most)) (
        refl,
        vector_made body_is (code_inside n) (n + 1) (all_bodies n) (bodies_content n) (bodies_count (code_inside n + length (unsigned (n + 1))) 0 n n) (omega (arith, most))
            (bodies_spelled (code_inside n + length (unsigned (n + 1))) 0 n n most),
      )

  behind_types : each_is section_is (functions_section n ∷ exports_section n ∷ code_section n ∷ []) functions_at (functions n ++ (exports n ++ code n))
  behind_types = record {
    front = functions n;
    back = exports n ++ code n;
    parts = refl;
    first = functions_section_spelled;
    second = record {
      front = exports n;
      back = code n;
      parts = refl;
      first = exports_section_spelled;
      second = record { front = code n; back = []; parts = sym (append-nil (code n)); first = code_section_spelled; second = refl };
    };
  }

  pub drill_spelled : (exactly magic then exactly version then each_is section_is (drill_sections n)) 0 (drill_bytes n)
  unfolding drill_bytes
  drill_spelled =
      let at : 8 + length types ≡ functions_at = let size = types_length in omega (arith, size) in
      record {
        front = magic;
        back = version ++ (types ++ (functions n ++ (exports n ++ code n)));
        parts = refl;
        first = refl;
        second = record {
          front = version;
          back = types ++ (functions n ++ (exports n ++ code n));
          parts = refl;
          first = refl;
          second = record {
            front = types;
            back = functions n ++ (exports n ++ code n);
            parts = refl;
            first = types_spelled;
            second = subst (λ (k : ℕ). each_is section_is (functions_section n ∷ exports_section n ∷ code_section n ∷ []) k (functions n ++ (exports n ++ code n))) (sym at) behind_types;
          };
        };
      }
