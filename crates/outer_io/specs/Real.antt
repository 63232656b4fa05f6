-- What the real sink and the real files show: a stream, and faults.
use Rattle.std.specs.Prelude.{ℕ}
use Rattle.outer_io.specs.declared.real.RealSink.{RealSink}
use Rattle.outer_io.specs.declared.real.RealFiles.{RealFiles}

-- the stream that a sink writes to
abbrev pub stream_of : {W : Type 0} → RealSink W → W
stream_of sink = sink.stream

-- how many faults a sink met
abbrev pub faults_of : {W : Type 0} → RealSink W → ℕ
faults_of sink = sink.faults

-- how many reads of the files met a fault
abbrev pub read_faults_of : {R : Type 0} → RealFiles R → ℕ
read_faults_of files = files.read_faults

-- how many writes did
abbrev pub write_faults_of : {R : Type 0} → RealFiles R → ℕ
write_faults_of files = files.write_faults
