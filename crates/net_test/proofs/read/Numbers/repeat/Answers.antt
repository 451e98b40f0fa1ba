-- Each number is put inside the buffer.
use Rattle.std.proofs.Common.{arith}
use Rattle.words.proofs.Words.{length-words}
use Rattle.net_test.proofs.read.Numbers.repeat.Goals as goal

pub put_word-requires : goal.put_word-requires
put_word-requires c = omega (arith, length-words c.loop-i.self.bytes)
