-- one more digit
use Rattle.std.proofs.Common.{◌<◌, ◌^◌, arith, refl}
use Rattle.chi_flit_text.specs.Digits.{bits_of, known_bits, unknown_bits}
use Rattle.chi_flit_text.proofs.NumberSoFar.{has_room, of_all, one_more}
use Rattle.chi_flit_text.proofs.digits.bits_of.Goals as goal

pub overflow_mul-known : goal.overflow_mul-known
overflow_mul-known c =
    let room : c.loop-code.known < 16 ^ 15 = has_room c.loop-code.known c.loop-code.code-index c.loop-code.invariant.known.small (omega arith) in
    omega arith

pub overflow_add-known : goal.overflow_add-known
overflow_add-known c =
    let room : c.loop-code.known < 16 ^ 15 = has_room c.loop-code.known c.loop-code.code-index c.loop-code.invariant.known.small (omega arith) in
    omega arith

pub overflow_mul-unknown : goal.overflow_mul-unknown
overflow_mul-unknown c =
    let room : c.loop-code.unknown < 16 ^ 15 = has_room c.loop-code.unknown c.loop-code.code-index c.loop-code.invariant.unknown.small (omega arith) in
    omega arith

pub overflow_add-unknown : goal.overflow_add-unknown
overflow_add-unknown c =
    let room : c.loop-code.unknown < 16 ^ 15 = has_room c.loop-code.unknown c.loop-code.code-index c.loop-code.invariant.unknown.small (omega arith) in
    omega arith

pub loop-code-preserved : goal.loop-code-preserved
loop-code-preserved c =
    let s = c.args.text.now in
    let so_far = c.loop-code in
    let known = c.known_bits in
    let unknown = c.unknown_bits in record {
      known = one_more known_bits s so_far.code-index so_far.known known.result c.loop-code-test.true so_far.invariant.known known.ensures.value known.ensures.small;
      unknown =
          one_more unknown_bits s so_far.code-index so_far.unknown unknown.result c.loop-code-test.true so_far.invariant.unknown unknown.ensures.value unknown.ensures.small;
    }

pub returns-clause-value : goal.returns-clause-value
unfolding bits_of
returns-clause-value c =
    let known = of_all known_bits c.args.text.now c.loop-code.known c.loop-code.code-index (omega arith) c.loop-code.invariant.known in
    let unknown = of_all unknown_bits c.args.text.now c.loop-code.unknown c.loop-code.code-index (omega arith) c.loop-code.invariant.unknown in
    rw (known, unknown) refl
