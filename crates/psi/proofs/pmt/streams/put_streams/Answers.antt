use Rattle.std.proofs.Common.{◌≡◌, ◌+◌, ◌<◌, ◌++◌, length, sym, ap, ◌∙◌, append-nil, arith}
use Rattle.std.specs.Option.{option_map}
use Rattle.std.proofs.lemmas.List.{get_or-take, get_or-drop, nil_from_length}
use Rattle.std.proofs.lemmas.Bool.{eqb-true, eqb-false}
use Rattle.std.proofs.lemmas.Grind.{common_steps}
use Rattle.psi.specs.Lookup.{out_of}
use Rattle.psi.specs.Packet.{Bytes, byte, pid_in, with_pid}
use Rattle.psi.specs.Places.{written}
use Rattle.psi.specs.Pmt.{stream_length, streams_of}
use Rattle.psi.proofs.Entries.{adds, streams_none, one_moved, one_gone, ended_wrong, ended_right}
use Rattle.psi.proofs.pmt.streams.put_streams.Goals as goal
use Rattle.psi.proofs.pmt.streams.put_streams.Goals.{After-out_of, After-split_stream}

some : (c : After-split_stream) → 0 < length c.loop-rest.rest.now
some c = omega (arith, eqb-false (length c.loop-rest.rest.now) 0 (sym c.loop-rest-test.ensures))

pub returns-in_err-stream-clause-written : goal.returns-in_err-stream-clause-written
returns-in_err-stream-clause-written c =
    let none = streams_none c.loop-rest.rest.now (some (goal.at.returns-in_err-stream-clause-written c).After-split_stream) c.in_err-stream.ensures in
    grind (arith, common_steps, ended_wrong c.args.rows.now c.args.parent (written c.args.place.now) (written c.loop-rest.place) (streams_of c.args.bytes.now))

-- the row that was looked for is the row of the first stream
looked : (c : After-out_of) → c.out_of.result ≡ out_of c.args.rows.now c.args.parent (pid_in (byte c.loop-rest.rest.now 1) (byte c.loop-rest.rest.now 2))
looked c =
    let rest = c.loop-rest.rest.now in
    let n = stream_length rest in
    let front = c.in_ok-stream.ensures.1 in
    c.out_of.ensures
    ∙ ap (out_of c.args.rows.now c.args.parent)
    (c.number_in-pid.ensures
    ∙ ap (λ (s : Bytes). pid_in (byte s 1) (byte s 2)) front
    ∙ (λ i. pid_in (get_or-take n rest 1 0 (omega arith) i) (get_or-take n rest 2 0 (omega arith) i)))

pub loop-rest-preserved-in-Some : goal.loop-rest-preserved-in-Some
loop-rest-preserved-in-Some c =
    let d = (goal.at.loop-rest-preserved-in-Some c).After-out_of in
    let rest = c.loop-rest.rest.now in
    let rows = c.args.rows.now in
    let told = c.in_ok-stream.ensures in
    let inv = c.loop-rest.invariant in (
      omega (arith, inv.0, c.put_stream.ensures.len),
      grind (arith, common_steps, told.0, told.1, told.2),
      λ i. rw told.2 (rw get_or-drop (inv.2 (stream_length rest + i))),
      ap (λ (s : Bytes). option_map (adds rows c.args.parent (written c.put_stream.new.place)) (streams_of s)) told.2
          ∙ one_moved rows c.args.parent (written c.loop-rest.place) rest _ (some (goal.at.loop-rest-preserved-in-Some c).After-split_stream) told.0 inv.3 _ c.in-Some.out (inv.2 4) (sym (looked d) ∙ c.in-Some.is)
          (c.put_stream.ensures.written ∙ ap (λ (s : Bytes). written c.loop-rest.place ++ with_pid c.in-Some.out s) told.1),
    )

pub loop-rest-preserved : goal.loop-rest-preserved
loop-rest-preserved c =
    let d = (goal.at.loop-rest-preserved c).After-out_of in
    let rest = c.loop-rest.rest.now in
    let rows = c.args.rows.now in
    let told = c.in_ok-stream.ensures in
    let inv = c.loop-rest.invariant in (
      inv.0,
      grind (arith, common_steps, told.0, told.2),
      λ i. rw told.2 (rw get_or-drop (inv.2 (stream_length rest + i))),
      ap (λ (s : Bytes). option_map (adds rows c.args.parent (written c.loop-rest.place)) (streams_of s)) told.2
          ∙ one_gone rows c.args.parent (written c.loop-rest.place) rest _ (some (goal.at.loop-rest-preserved c).After-split_stream) told.0 inv.3 (sym (looked d) ∙ c.in_default.is),
    )

pub returns-clause-written : goal.returns-clause-written
unfolding streams_of
returns-clause-written c =
    let empty = nil_from_length c.loop-rest.rest.now (eqb-true (length c.loop-rest.rest.now) 0 (sym c.loop-rest-test.ensures)) in
    grind (arith, common_steps, append-nil (written c.loop-rest.place), ended_right c.args.rows.now c.args.parent (written c.args.place.now) (written c.loop-rest.place) (streams_of c.args.bytes.now))
