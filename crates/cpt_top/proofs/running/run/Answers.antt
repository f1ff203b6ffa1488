use Rattle.std.proofs.Common.{string_bytes, map, sym}
use Rattle.cpt_answer.specs.Promise.{Call, call}
use Rattle.cpt_answer.specs.Writing.{output}
use Rattle.cpt_words.specs.Words.{asked_of}
use Rattle.cpt_top.proofs.RunLemmas.{AllKept, command_kept, usage_kept}
use Rattle.cpt_top.proofs.running.run.Goals as goal

pub returns-in-Some : goal.returns-in-Some
returns-in-Some g c =
    let x : Call = call (g.L.Library.steady c.args.lib.now) (g.L.Library.faults c.args.lib.now) (g.L.Library.faults c.perform.new.lib) (output (g.K.Sink.faults c.args.out.now) (g.K.Sink.written c.args.out.now))
    (output (g.K.Sink.faults c.perform.new.out) (g.K.Sink.written c.perform.new.out)) c.perform.result in
    let k : AllKept (g.L.Library.holds c.args.lib.now) (map string_bytes c.args.words.now) (g.L.Library.left c.perform.new.lib) x =
    command_kept (g.L.Library.holds c.args.lib.now) (map string_bytes c.args.words.now) (g.L.Library.left c.perform.new.lib) x (asked_of c.in-Some.command) (sym c.in-Some.ensures.asked) c.perform.ensures.performs
    c.perform.ensures.keeps c.perform.ensures.end in
    record {
      known = k.known;
      only = k.only;
      given = k.given;
      end = k.end;
      usage = k.usage;
      unknown = k.unknown;
      read = k.read;
      read_text = k.read_text;
      lacking = k.lacking;
      write = k.write;
      front = k.front;
      memory = k.memory;
      reads = k.reads;
      writes = k.writes;
      validate_task = k.validate_task;
      validate = k.validate;
      ground = k.ground;
      check = k.check;
      solve = k.solve;
      prove = k.prove;
      trim = k.trim;
      tighten = k.tighten;
      explain = k.explain;
      explain_cert = k.explain_cert;
      export = k.export;
      validate_json = k.validate_json;
      bench = k.bench;
    }

pub returns-in-None : goal.returns-in-None
returns-in-None g c =
    let x : Call = call (g.L.Library.steady c.args.lib.now) (g.L.Library.faults c.args.lib.now) (g.L.Library.faults c.args.lib.now) (output (g.K.Sink.faults c.args.out.now) (g.K.Sink.written c.args.out.now))
    (output (g.K.Sink.faults c.put_usage.new.out) (g.K.Sink.written c.put_usage.new.out)) c.put_usage.result in
    let k : AllKept (g.L.Library.holds c.args.lib.now) (map string_bytes c.args.words.now) (g.L.Library.left c.args.lib.now) x =
    usage_kept (g.L.Library.holds c.args.lib.now) (map string_bytes c.args.words.now) (g.L.Library.left c.args.lib.now) (g.L.Library.steady c.args.lib.now) (g.L.Library.faults c.args.lib.now)
    (output (g.K.Sink.faults c.args.out.now) (g.K.Sink.written c.args.out.now)) (output (g.K.Sink.faults c.put_usage.new.out) (g.K.Sink.written c.put_usage.new.out)) c.put_usage.result (sym c.in-None.ensures.asked) c.put_usage.ensures in
    record {
      known = k.known;
      only = k.only;
      given = k.given;
      end = k.end;
      usage = k.usage;
      unknown = k.unknown;
      read = k.read;
      read_text = k.read_text;
      lacking = k.lacking;
      write = k.write;
      front = k.front;
      memory = k.memory;
      reads = k.reads;
      writes = k.writes;
      validate_task = k.validate_task;
      validate = k.validate;
      ground = k.ground;
      check = k.check;
      solve = k.solve;
      prove = k.prove;
      trim = k.trim;
      tighten = k.tighten;
      explain = k.explain;
      explain_cert = k.explain_cert;
      export = k.export;
      validate_json = k.validate_json;
      bench = k.bench;
    }
