-- A flat frame and a frame: the same kind and bytes. Document 01, Frames.
use Rattle.frame.specs.declared.Frame.{Frame}
use Rattle.kospelna.specs.declared.frames.FlatFrame.{FlatFrame}

abbrev pub frame_from : FlatFrame → Frame
frame_from f = record { kind = f.kind; bytes = f.bytes }

abbrev pub flat_frame : Frame → FlatFrame
flat_frame f = record { kind = f.kind; bytes = f.bytes }
