pub mod FedFrames
