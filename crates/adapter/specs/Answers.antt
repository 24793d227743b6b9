-- What the calls' answers stand for in the rules, and the number of each refusal.
use Rattle.std.specs.Prelude.{ℕ, Ok, Err, Result, List, ◌++◌, codes, decimal}
use Rattle.rules.specs.Calls.{HearAnswer, passed_over, dropped_it, held_it, refused_hear, LossAnswer, lost, refused_loss, RecordAnswer, anew, queued, refused_record, FrameAnswer, skipped, followed, added, refused_frame}
use Rattle.adapter.specs.declared.answer.Heard.{Heard}
use Rattle.adapter.specs.declared.answer.Heard.TheVariants.{PassedOver, Dropped, Held}
use Rattle.adapter.specs.declared.answer.Lost.{Lost}
use Rattle.adapter.specs.declared.answer.Recorded.{Recorded}
use Rattle.adapter.specs.declared.answer.Recorded.TheVariants.{Anew, Queued}
use Rattle.adapter.specs.declared.answer.Framed.{Framed}
use Rattle.adapter.specs.declared.answer.Framed.TheVariants.{Skipped, Followed, Added}
use Rattle.adapter.specs.declared.answer.Refusal.{Refusal}
use Rattle.adapter.specs.declared.answer.Refusal.TheVariants.{TooFewEntries, UnknownParent, BadPacket, Untimely, FullLine, OutOfRange, RecordsFull, NoRecord, Unheard, CarrierFull}

abbrev pub number_of : Refusal → ℕ
number_of TooFewEntries = 5
number_of UnknownParent = 6
number_of BadPacket = 7
number_of Untimely = 8
number_of FullLine = 9
number_of OutOfRange = 10
number_of RecordsFull = 11
number_of NoRecord = 12
number_of Unheard = 13
number_of CarrierFull = 14

abbrev pub hear_answer : Result Heard Refusal → HearAnswer
hear_answer (Ok PassedOver) = passed_over
hear_answer (Ok Dropped) = dropped_it
hear_answer (Ok Held) = held_it
hear_answer (Err refusal) = refused_hear (number_of refusal)

abbrev pub loss_answer : Result Lost Refusal → LossAnswer
loss_answer (Ok done) = lost
loss_answer (Err refusal) = refused_loss (number_of refusal)

abbrev pub record_answer : Result Recorded Refusal → RecordAnswer
record_answer (Ok Anew) = anew
record_answer (Ok Queued) = queued
record_answer (Err refusal) = refused_record (number_of refusal)

abbrev pub frame_answer : Result Framed Refusal → FrameAnswer
frame_answer (Ok (Skipped number)) = skipped number
frame_answer (Ok (Followed number drops)) = followed number drops
frame_answer (Ok (Added number drops)) = added number drops
frame_answer (Err refusal) = refused_frame (number_of refusal)

-- This holds of every frame call but one that added its frame.
abbrev pub UnlessAdded : FrameAnswer → Type 0 → Type 0
UnlessAdded (skipped number) P = P
UnlessAdded (followed number drops) P = P
UnlessAdded (added number drops) P = Unit {0}
UnlessAdded (refused_frame number) P = P

-- How each answer is told.
abbrev pub heard_words : Heard → List ℕ
heard_words PassedOver = codes "passed over"
heard_words Dropped = codes "dropped"
heard_words Held = codes "held"

abbrev pub lost_words : List ℕ
lost_words = codes "lost"

abbrev pub recorded_words : Recorded → List ℕ
recorded_words Anew = codes "anew"
recorded_words Queued = codes "queued"

abbrev pub framed_words : Framed → List ℕ
framed_words (Skipped number) = codes "skipped " ++ decimal number
framed_words (Followed number drops) = codes "followed " ++ (decimal number ++ (codes " dropped " ++ decimal drops))
framed_words (Added number drops) = codes "added " ++ (decimal number ++ (codes " dropped " ++ decimal drops))

abbrev pub refusal_words : Refusal → List ℕ
refusal_words refusal = codes "refused " ++ decimal (number_of refusal)
