-- The paper's number for each answer of the tests of an event's objects.
use Rattle.std.specs.Prelude.{ℕ, Result}
use Rattle.words.specs.Refusals.{answer_code}
use Rattle.replay_objects.specs.declared.objects.ObjectError.{ObjectError}
use Rattle.replay_objects.specs.declared.objects.ObjectError.TheVariants.{Object, Kind, TwoOfKind}

abbrev pub object_error_code : ObjectError → ℕ
object_error_code Object = 25
object_error_code Kind = 26
object_error_code TwoOfKind = 27

abbrev pub object_answer_code : Result Unit ObjectError → ℕ
object_answer_code = answer_code object_error_code
