use Rattle.std.proofs.Common.{sym, arith}
use Rattle.made_stream.proofs.DecimalDigits.{length-decimal_digit, length-decimal_two, length-decimal_three, length-decimal_four, length-decimal_five}
use Rattle.made_stream.proofs.made.digits.digit_count.Goals as goal

pub returns-in-0-to-9-clause-count : goal.returns-in-0-to-9-clause-count
returns-in-0-to-9-clause-count c = sym (length-decimal_digit _ (omega arith))

pub returns-in-10-to-99-clause-count : goal.returns-in-10-to-99-clause-count
returns-in-10-to-99-clause-count c = sym (length-decimal_two _ (omega arith) (omega arith))

pub returns-in-100-to-999-clause-count : goal.returns-in-100-to-999-clause-count
returns-in-100-to-999-clause-count c = sym (length-decimal_three _ (omega arith) (omega arith))

pub returns-in-1000-to-9999-clause-count : goal.returns-in-1000-to-9999-clause-count
returns-in-1000-to-9999-clause-count c = sym (length-decimal_four _ (omega arith) (omega arith))

pub returns-in_default-clause-count : goal.returns-in_default-clause-count
returns-in_default-clause-count c = sym (length-decimal_five _ (omega arith) (omega arith))
